-- The tables of a ledger, and what they hold of its slips.
use Rattle.std.specs.Prelude.{◌≡◌, ℕ, ◌+◌, ◌<◌, ◌≤◌, ◌^◌, Bool, List, length, slice_index_or}
use Rattle.std.specs.List.{All}
use Rattle.cube_shape.specs.declared.limits.TheConstants.{MAX_DIM}
use Rattle.cube_ledger.specs.declared.slip.Slip.{Slip}
use Rattle.cube_ledger.specs.declared.ledger.Totals.{Totals}
use Rattle.cube_ledger.specs.Ledger.{is_any, is_of_dim, is_of_lane, processors_of, totals_of}

-- The slip's block is one of a machine within the limits.
abbrev pub HasSmallDim : Slip → Type 0
HasSmallDim slip = slip.region.dim ≤ MAX_DIM

-- Not all processors of the slip's block are idle.
abbrev pub HasFewIdle : Slip → Type 0
HasFewIdle slip = slip.idle < 2 ^ slip.region.dim

-- One more slip can be added to the totals.
pub record HasRoom (totals : Totals) : Type 0 where
  pub jobs : totals.jobs + 1 < 2 ^ 64
  pub processors : totals.processors + 2 ^ MAX_DIM < 2 ^ 128
  pub idle : totals.idle + 2 ^ 64 < 2 ^ 128

-- The totals with one more slip.
abbrev pub and_slip : Totals → Slip → Totals
and_slip totals slip =
    record {
      jobs = totals.jobs + 1;
      processors = totals.processors + processors_of slip;
      idle = totals.idle + slip.idle;
    }

-- Each entry of the table has the totals of the slips that pass the test of its number.
abbrev pub HasTotals : (ℕ → Slip → Bool) → List Slip → List Totals → Type 0
HasTotals test slips table =
    (k : ℕ) (d : Totals) → k < length table → slice_index_or table k d ≡ totals_of (test k) slips

-- The tables have the totals of the slips by lane, by dimension and in all. The slips of lanes
-- with no entry stand beside them.
pub record HasTables (lanes dims : List Totals) (total : Totals) (others slips : List Slip) :
    Type 0 where
  pub by_lane : HasTotals is_of_lane slips lanes
  pub by_dim : HasTotals is_of_dim slips dims
  pub in_all : total ≡ totals_of is_any slips
  pub beside : (lane : ℕ) → length lanes ≤ lane →
      totals_of (is_of_lane lane) others ≡ totals_of (is_of_lane lane) slips
  pub small_beside : All HasSmallDim others
  pub small : All HasSmallDim slips
  pub few_idle : All HasFewIdle slips
