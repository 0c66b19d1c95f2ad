-- What contracts say of the arguments of a measurement of the tree.
use Rattle.std.specs.Prelude.{◌<◌}
use Rattle.cube_shape.specs.declared.limits.TheConstants.{MAX_STATIONS}
use Rattle.cube_bench.specs.declared.tree.words.TreeRun.{TreeRun}
use Rattle.cube_bench.specs.declared.tree.words.TreeRun.TheVariants.{Threads, Bitmaps, Solo, Bits}

-- A run on threads has at least one thread. Each thread has a station, and there is one station
-- more.
abbrev pub HasLanes : TreeRun → Type 0
HasLanes (Threads threads workload) = (0 < threads) × (threads < MAX_STATIONS)
HasLanes (Bitmaps threads workload) = (0 < threads) × (threads < MAX_STATIONS)
HasLanes (Solo workload) = Unit {0}
HasLanes (Bits workload) = Unit {0}
