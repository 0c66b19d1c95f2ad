-- Rows by their columns.
use Rattle.std.proofs.Common.{◌≡◌, List, ℕ, [], ◌∷◌, length, refl}
use Rattle.jobs_csv.specs.declared.place_rows.PlaceRow.{PlaceRow}
use Rattle.jobs_csv.specs.declared.place_rows.PlaceRow.TheVariants as row
use Rattle.jobs_csv.specs.declared.replay_rows.ReplayRow.{ReplayRow}
use Rattle.jobs_csv.specs.declared.replay_rows.ReplayRow.TheVariants as line
use Rattle.jobs_csv.specs.Inner.Rows.{base_in, command_text, dim_in, end_text, event_text, name_in, node_in, outcome_text, station_in, word_in}
use Rattle.jobs_csv.specs.PlaceRows.{place_columns, place_fields}
use Rattle.jobs_csv.specs.ReplayRows.{replay_columns, replay_fields}
use Rattle.jobs_csv.specs.Text.{number_text}

-- a row that answers a command
pub place_by_columns : (r : PlaceRow)
    → place_fields r ≡ command_text r ∷ name_in r ∷ number_text (dim_in r) ∷ number_text (base_in r)
    ∷ outcome_text r ∷ []
place_by_columns (row.Given name dim base) = refl
place_by_columns (row.Held name dim) = refl
place_by_columns (row.NoStation name dim) = refl
place_by_columns (row.NoSubcube name dim) = refl
place_by_columns (row.Freed name dim base) = refl
place_by_columns (row.NothingHeld name) = refl

-- a row of a schedule
pub replay_by_columns : (r : ReplayRow)
    → replay_fields r ≡ number_text (station_in r) ∷ event_text r ∷ number_text (node_in r)
    ∷ word_in r ∷ end_text r ∷ []
replay_by_columns (line.Made event) = refl
replay_by_columns (line.Refused station at why) = refl
replay_by_columns (line.Word node word) = refl
replay_by_columns (line.End count) = refl

-- each has a field for each column
pub place_each : (r : PlaceRow) → length (place_fields r) ≡ length place_columns
place_each (row.Given name dim base) = refl
place_each (row.Held name dim) = refl
place_each (row.NoStation name dim) = refl
place_each (row.NoSubcube name dim) = refl
place_each (row.Freed name dim base) = refl
place_each (row.NothingHeld name) = refl

pub replay_each : (r : ReplayRow) → length (replay_fields r) ≡ length replay_columns
replay_each (line.Made event) = refl
replay_each (line.Refused station at why) = refl
replay_each (line.Word node word) = refl
replay_each (line.End count) = refl

-- two lists of five texts
pub five_texts : {a b c d e a2 b2 c2 d2 e2 : List ℕ}
    → a ≡ a2
    → b ≡ b2
    → c ≡ c2
    → d ≡ d2
    → e ≡ e2
    → a ∷ b ∷ c ∷ d ∷ e ∷ [] ≡ a2 ∷ b2 ∷ c2 ∷ d2 ∷ e2 ∷ []
five_texts p q r s t = cc

-- two lists of seven texts
pub seven_texts : {a b c d e f g a2 b2 c2 d2 e2 f2 g2 : List ℕ}
    → a ≡ a2
    → b ≡ b2
    → c ≡ c2
    → d ≡ d2
    → e ≡ e2
    → f ≡ f2
    → g ≡ g2
    → a ∷ b ∷ c ∷ d ∷ e ∷ f ∷ g ∷ [] ≡ a2 ∷ b2 ∷ c2 ∷ d2 ∷ e2 ∷ f2 ∷ g2 ∷ []
seven_texts p q r s t u v = cc
