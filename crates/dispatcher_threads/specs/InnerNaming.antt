-- The dispatcher that a run has by its name.
use Rattle.std.specs.Prelude.{[]}
use Rattle.dispatcher.specs.declared.opening.ShopSizes.{ShopSizes}
use Rattle.dispatcher.specs.Shop.{ShopId}

-- The sizes of a dispatcher, except the number of its lanes.
abbrev pub sizes_of : ShopId → ShopSizes
sizes_of shop =
    record {
      dim = shop.floor.dim;
      dispatchers = shop.line.sizes.passes;
      capacity =
          shop.line.sizes.capacity;
    }

-- The dispatcher of a name that is not picked yet.
abbrev pub no_shop : ShopId
no_shop =
    record {
      line = record {
        tables = [];
        sizes = record
            { machine = 0; lanes = 0; passes = 0; capacity = 0 };
      };
      floor = record
          { tables = []; dim = 0; stations = 0 };
    }
