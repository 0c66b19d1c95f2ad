-- A collective, packed.
use Rattle.std.specs.Prelude.{ℕ}
use Rattle.job_types.specs.declared.packed_kind.Form.{Form}
use Rattle.job_types.specs.declared.packed_kind.Form.TheVariants.{Spread, Gather, Total, Prefixes, Earlier}
use Rattle.job_types.specs.declared.kind.Op.{Op}
use Rattle.job_types.specs.declared.kind.Kind.{Kind}
use Rattle.job_types.specs.declared.kind.Kind.TheVariants.{Broadcast, Reduce, AllReduce, Scan, ExScan}

-- The collective of this form. Some forms have no operation or no root.
abbrev pub kind_by : Form → Op → ℕ → Kind
kind_by Spread op root = Broadcast root
kind_by Gather op root = Reduce op root
kind_by Total op root = AllReduce op
kind_by Prefixes op root = Scan op
kind_by Earlier op root = ExScan op
