-- The result of a request once the file of its events is in place, and how a call ends after it.
use Rattle.std.proofs.Common.{◌≡◌, ◌≢◌, ◌⊎◌, inl, inr, ℕ, Bool, true, false, true≢false, List, Option, None, Some, Result, Ok, Err, IfErr, IfSome, OnOk, bytes_eq, is_some, not, ◌&&◌, refl, sym, ap, subst, ◌∙◌}
use Rattle.std.proofs.lemmas.Slice.Eq.{bytes_eq-Decides}
use Rattle.clap.specs.Words.{Text}
use Rattle.jobs_csv.specs.declared.fault.Fault.{Fault}
use Rattle.cli_args.specs.CommandLine.{AsksFor, are_apart}
use Rattle.cli_args.specs.declared.invocation.Invocation.{Invocation}
use Rattle.cli_args.specs.declared.invocation.Request.{Request}
use Rattle.cli_commands.specs.Events.{WritesEvents}
use Rattle.cli_commands.specs.Inner.Ending.{EndsAfter, EndsWith}
use Rattle.cli_commands.specs.Inner.Files.{AreEventsSettled, EndsIn, IfFile, IsOutcome, IsOutputAlone, IsWholeOutcome, StopsBeforeWriting, StopsForEvents}
use Rattle.cli_commands.specs.Program.{EndsBeforeWriting, EndsForEvents, HasOutputAlone, HoldsEvents, IsAnswerTo, IsFaultIn, KeepsUnwritten, events_of, input_of, names, output_of}
use Rattle.cli_commands.specs.declared.files.CommandError.{CommandError}
use Rattle.cli_commands.specs.declared.files.CommandError.TheVariants as error
use Rattle.cli_commands.specs.declared.program.Ending.{Ending}
use Rattle.cli_commands.specs.declared.program.Ending.TheVariants.{Done, Failed, FileFailed}
use Rattle.atomic_file.specs.Store.{KeepsFiles, KeepsOthers, begun_by, held_by}
use Rattle.atomic_file.specs.declared.file_fault.FileFault.{FileFault}
use Rattle.atomic_file.specs.declared.file_fault.FileSide.TheVariants.{Events}
use Rattle.cli_commands.proofs.FileLemmas.{same_fault}

-- ---- files that stay

-- each file that is not written stays
unwritten : (output events : Option Text) (old new : Text → Option (List ℕ))
    → KeepsOthers output old new
    → KeepsUnwritten output events old new
unwritten None events old new kept = λ file no_output no_events. kept file
unwritten (Some name) events old new others = λ file no_output no_events. others file (λ is. no_output (ap Some (sym is)))

-- a call keeps the others, if the calls before it and after it change no file
others_too : (output : Option Text) (first old new last : Text → Option (List ℕ))
    → KeepsFiles first old
    → KeepsOthers output old new
    → KeepsFiles new last
    → KeepsOthers output first last
others_too None first old new last before others after = λ file. after file ∙ others file ∙ before file
others_too (Some name) first old new last before others after = λ file differs. after file ∙ others file differs ∙ before file

-- what is known of a file or of a stream, if no file changed
same_held : (output : Option Text) (old new : Text → Option (List ℕ)) (stream : Option (List ℕ))
    → KeepsFiles old new
    → held_by new stream output ≡ held_by old stream output
same_held None old new stream kept = refl
same_held (Some name) old new stream kept = kept name

unlike_itself : (one other : Text) (b : Bool)
    → b && not (bytes_eq one other) ≡ true
    → one ≢ other
unlike_itself one other true is equal = true≢false (sym is ∙ ap not ((bytes_eq-Decides one other).1 equal))
unlike_itself one other false is equal = true≢false (sym is)

-- the output stays when the file of the events is put in place
output_stays : (output : Option Text) (name : Text) (old new : Text → Option (List ℕ))
    (stream : Option (List ℕ))
    → are_apart output (Some name) ≡ true
    → KeepsOthers (Some name) old new
    → held_by new stream output ≡ held_by old stream output
output_stays None name old new stream apart others = refl
output_stays (Some output) name old new stream apart others = others output (unlike_itself output name _ apart)

-- a request that failed says nothing of what is written
same_stop : (invocation : Invocation) (read old new begun held : Option (List ℕ))
    (s : CommandError)
    → EndsIn invocation read old new (Err s)
    → EndsIn invocation read begun held (Err s)
same_stop invocation read old new begun held (error.Fault fault) is = same_fault invocation read old new begun held fault is
same_stop invocation read old new begun held (error.File fault) is = tt

-- a fault of the file of the events has one that is named
pub names_events : (input output : Option Text) (name : Text) (fault : FileFault)
    → fault.side ≡ Events
    → names input output (Some name) fault.side ≡ true
names_events input output name fault side = ap (names input output (Some name)) side

-- ---- a request that names no file for its events

kept_too : (K : Type 0) (result : Result (Unit {0}) CommandError)
    → IfErr result (λ s. K)
    → IfErr result (λ s. K ⊎ StopsForEvents s)
kept_too K (Ok done) kept = tt
kept_too K (Err s) kept = inl kept

no_events_written : (events : Option Text) (P : Text → Type 0)
    (result : Result (Unit {0}) CommandError)
    → events ≡ None
    → OnOk result (IfSome events P)
no_events_written None P (Ok done) none = tt
no_events_written None P (Err s) none = tt
no_events_written (Some name) P result none = absurd (cc)

-- its outcome is whole
pub without_file : (fresh : Option (List ℕ)) (store_old store_new : Text → Option (List ℕ))
    (read writer_old writer_new : Option (List ℕ)) (rb ra wb wa : ℕ)
    (input output events : Option Text) (invocation : Invocation)
    (result : Result (Unit {0}) CommandError)
    → events ≡ None
    → IsOutcome fresh store_old store_new read writer_old writer_new rb ra wb wa input output events
    invocation result
    → IsWholeOutcome fresh store_old store_new read writer_old writer_new rb ra wb wa input output
    events invocation result
without_file fresh store_old store_new read writer_old writer_new rb ra wb wa input output events invocation result none outcome = record {
  answered = outcome.answered;
  failed = outcome.failed;
  side = outcome.side;
  others = unwritten output events store_old store_new outcome.others;
  kept = kept_too (KeepsFiles store_old store_new) result outcome.kept;
  written = no_events_written events (λ name. IfSome read (λ b. WritesEvents invocation b fresh (store_new name))) result none;
}

-- it does not stop for the file of the events
no_file_named : (input output events : Option Text) (fault : FileFault)
    → events ≡ None
    → names input output events fault.side ≡ true
    → fault.side ≡ Events
    → ⊥
no_file_named input output events fault none named side = true≢false (sym named ∙ ap (names input output events) side ∙ ap is_some none)

pub never_late : (P : Type 0) (input output events : Option Text)
    (result : Result (Unit {0}) CommandError)
    → events ≡ None
    → IfErr result (λ s. IfFile s (λ file. names input output events file.side ≡ true))
    → IfErr result (λ s. StopsForEvents s → P)
never_late P input output events (Ok done) none named = tt
never_late P input output events (Err (error.Fault fault)) none named = λ stops. absurd stops
never_late P input output events (Err (error.File fault)) none named = λ stops. absurd (no_file_named input output events fault none named stops)

pub untouched_or : (P : Type 0) (result : Result (Unit {0}) CommandError)
    → IfErr result (λ s. StopsBeforeWriting s → P)
    → IfErr result (λ s. StopsBeforeWriting s → P ⊎ StopsForEvents s)
untouched_or P (Ok done) untouched = tt
untouched_or P (Err s) untouched = λ stops. inl (untouched stops)

-- ---- a request that names one

module _ (fresh : Option (List ℕ)) (store_old store_begun : Text → Option (List ℕ))
    (stream writer_old writer_new : Option (List ℕ)) (rb ra wb wa : ℕ)
    (input output : Option Text) (name : Text) (invocation : Invocation)
    (begun : KeepsFiles store_old store_begun) where
  -- no temporary file could be begun
  pub events_not_begun : (fault : FileFault)
      → fault.side ≡ Events
      → IsWholeOutcome fresh store_old store_begun (held_by store_old stream input) writer_old
      writer_old rb rb wb wb input output (Some name) invocation (Err (error.File fault))
  events_not_begun fault side = record {
    answered = tt;
    failed = tt;
    side = names_events input output name fault side;
    others = λ file no_output no_events. begun file;
    kept = inl begun;
    written = tt;
  }

  module _ (store_done store_new : Text → Option (List ℕ)) (contents_old contents_new : Option (List ℕ))
      (apart : are_apart output (Some name) ≡ true) (is_fresh : contents_old ≡ fresh) where
    -- the file of the events was put in place or discarded, by the result of all else
    pub in_place : (done result : Result (Unit {0}) CommandError)
        → IsOutcome fresh store_begun store_done (held_by store_begun stream input) writer_old
        writer_new rb ra wb wa input output (Some name) invocation done
        → OnOk done (IfSome (held_by store_begun stream input)
        (λ b. WritesEvents invocation b contents_old contents_new))
        → AreEventsSettled contents_new store_done store_new name done result
        → IsWholeOutcome fresh store_old store_new (held_by store_old stream input) writer_old
        writer_new rb ra wb wa input output (Some name) invocation result
    in_place (Err s) result outcome written (is, kept) =
        let all : KeepsFiles store_old store_new = λ file. kept file ∙ outcome.kept file ∙ begun file in
        subst (IsWholeOutcome fresh store_old store_new (held_by store_old stream input) writer_old writer_new rb ra wb wa input output (Some name) invocation) (sym is) (record {
          answered = subst (λ (r : Option (List ℕ)). EndsIn invocation r (begun_by fresh writer_old output) (held_by store_new writer_new output) (Err s)) (same_held input store_old store_begun stream begun)
              (same_stop invocation _ _ _ _ _ s outcome.answered);
          failed = outcome.failed;
          side = outcome.side;
          others = λ file no_output no_events. all file;
          kept = inl all;
          written = tt;
        })
    in_place (Ok done) (Ok put) outcome written (is_put, others) = record {
      answered = subst (λ (r : Option (List ℕ)). IfSome r (λ b. IsAnswerTo invocation b (begun_by fresh writer_old output) (held_by store_new writer_new output) (Ok tt))) (same_held input store_old store_begun stream begun)
          (subst (λ (h : Option (List ℕ)). IfSome (held_by store_begun stream input) (λ b. IsAnswerTo invocation b (begun_by fresh writer_old output) h (Ok tt))) (sym (output_stays output name store_done store_new writer_new apart others)) outcome.answered);
      failed = tt;
      side = tt;
      others = λ file no_output no_events. others file (λ is. no_events (ap Some (sym is)))
          ∙ unwritten output (Some name) store_begun store_done outcome.others file no_output no_events ∙ begun file;
      kept = tt;
      written = subst (λ (r : Option (List ℕ)). IfSome r (λ b. WritesEvents invocation b fresh (store_new name))) (same_held input store_old store_begun stream begun)
          (subst (λ (h : Option (List ℕ)). IfSome (held_by store_begun stream input) (λ b. WritesEvents invocation b fresh h)) (sym is_put)
          (subst (λ (f : Option (List ℕ)). IfSome (held_by store_begun stream input) (λ b. WritesEvents invocation b f contents_new)) is_fresh written));
    }
    in_place (Ok done) (Err (error.Fault fault)) outcome written is = absurd is
    in_place (Ok done) (Err (error.File fault)) outcome written (side, kept) = record {
      answered = tt;
      failed = tt;
      side = names_events input output name fault side;
      others = λ file no_output no_events. kept file
          ∙ unwritten output (Some name) store_begun store_done outcome.others file no_output no_events ∙ begun file;
      kept = inr side;
      written = tt;
    }

    -- if it could not be put in place, the output is whole or nothing was done
    pub late_or_never : (P : Type 0) (done result : Result (Unit {0}) CommandError)
        → IsOutcome fresh store_begun store_done (held_by store_begun stream input) writer_old
        writer_new rb ra wb wa input output (Some name) invocation done
        → IfErr done (λ s. StopsBeforeWriting s → P)
        → AreEventsSettled contents_new store_done store_new name done result
        → IfErr result (λ s. StopsForEvents s → KeepsFiles store_old store_new × P
        ⊎ IsOutputAlone store_old store_new (held_by store_old stream input)
        (begun_by fresh writer_old output) (held_by store_new writer_new output) output invocation)
    late_or_never P (Err (error.Fault fault)) result outcome untouched (is, kept) = subst (λ (r : Result (Unit {0}) CommandError). IfErr r (λ s. StopsForEvents s → KeepsFiles store_old store_new × P ⊎ IsOutputAlone store_old store_new (held_by store_old stream input) (begun_by fresh writer_old output) (held_by store_new writer_new output) output invocation)) (sym is)
        (λ stops. absurd stops)
    late_or_never P (Err (error.File fault)) result outcome untouched (is, kept) = subst (λ (r : Result (Unit {0}) CommandError). IfErr r (λ s. StopsForEvents s → KeepsFiles store_old store_new × P ⊎ IsOutputAlone store_old store_new (held_by store_old stream input) (begun_by fresh writer_old output) (held_by store_new writer_new output) output invocation)) (sym is)
        (λ stops. inl ((λ file. kept file ∙ outcome.kept file ∙ begun file), untouched tt))
    late_or_never P (Ok done) (Ok put) outcome untouched is = tt
    late_or_never P (Ok done) (Err (error.Fault fault)) outcome untouched is = absurd is
    late_or_never P (Ok done) (Err (error.File fault)) outcome untouched (side, kept) = λ stops. inr (
      subst (λ (r : Option (List ℕ)). IfSome r (λ b. IsAnswerTo invocation b (begun_by fresh writer_old output) (held_by store_new writer_new output) (Ok tt))) (same_held input store_old store_begun stream begun)
          (subst (λ (h : Option (List ℕ)). IfSome (held_by store_begun stream input) (λ b. IsAnswerTo invocation b (begun_by fresh writer_old output) h (Ok tt))) (sym (same_held output store_done store_new writer_new kept)) outcome.answered),
      others_too output store_old store_begun store_done store_new begun outcome.others kept,
    )

    -- and if it stops before it writes, nothing is written unless it could not be put in place
    pub settled_before : (P : Type 0) (done result : Result (Unit {0}) CommandError)
        → IfErr done (λ s. StopsBeforeWriting s → P)
        → AreEventsSettled contents_new store_done store_new name done result
        → IfErr result (λ s. StopsBeforeWriting s → P ⊎ StopsForEvents s)
    settled_before P (Err s) result untouched (is, kept) = subst (λ (r : Result (Unit {0}) CommandError). IfErr r (λ s. StopsBeforeWriting s → P ⊎ StopsForEvents s)) (sym is)
        (λ stops. inl (untouched stops))
    settled_before P (Ok done) (Ok put) untouched is = tt
    settled_before P (Ok done) (Err (error.Fault fault)) untouched is = absurd is
    settled_before P (Ok done) (Err (error.File fault)) untouched (side, kept) = λ stops. inr side

-- ---- how a call ends after it

-- by the result of its request, which is reported
pub ended : (fresh : Option (List ℕ)) (store_old store_new : Text → Option (List ℕ))
    (read writer_old writer_new : Option (List ℕ)) (rb ra wb wa : ℕ)
    (input output events : Option Text) (invocation : Invocation)
    (result : Result (Unit {0}) CommandError) (end : Ending)
    → EndsWith result end
    → IsWholeOutcome fresh store_old store_new read writer_old writer_new rb ra wb wa input output
    events invocation result
    → EndsAfter invocation read (begun_by fresh writer_old output)
    (held_by store_new writer_new output) (IsFaultIn rb ra wb wa input output events invocation)
    (names input output events) end
ended fresh store_old store_new read writer_old writer_new rb ra wb wa input output events invocation (Ok done) end is outcome = subst (EndsAfter invocation read (begun_by fresh writer_old output) (held_by store_new writer_new output) (IsFaultIn rb ra wb wa input output events invocation) (names input output events)) (sym is) outcome.answered
ended fresh store_old store_new read writer_old writer_new rb ra wb wa input output events invocation (Err (error.Fault fault)) end (is_reported, is) outcome = subst (EndsAfter invocation read (begun_by fresh writer_old output) (held_by store_new writer_new output) (IsFaultIn rb ra wb wa input output events invocation) (names input output events)) (sym is) (outcome.answered, outcome.failed)
ended fresh store_old store_new read writer_old writer_new rb ra wb wa input output events invocation (Err (error.File fault)) end (is_reported, is) outcome = subst (EndsAfter invocation read (begun_by fresh writer_old output) (held_by store_new writer_new output) (IsFaultIn rb ra wb wa input output events invocation) (names input output events)) (sym is) outcome.side

-- if the call ends before it writes, so does its request
pub ended_before : (P : Type 0) (result : Result (Unit {0}) CommandError) (end : Ending)
    → EndsWith result end
    → IfErr result (λ s. StopsBeforeWriting s → P ⊎ StopsForEvents s)
    → EndsBeforeWriting end
    → P
ended_before P (Ok done) end is stops before = absurd (subst EndsBeforeWriting is before)
ended_before P (Err (error.Fault fault)) end (is_reported, is) stops before = elim (stops (subst EndsBeforeWriting is before)) [
  | inl p ↦ p
  | inr of_events ↦ absurd of_events
]
ended_before P (Err (error.File fault)) end (is_reported, is) stops before = elim (stops tt) [
  | inl p ↦ p
  | inr of_events ↦ absurd (subst EndsBeforeWriting is before of_events)
]

-- no file changed, unless the call is done or ends for the file of the events
pub ended_kept : (K : Type 0) (result : Result (Unit {0}) CommandError) (end : Ending)
    → EndsWith result end
    → IfErr result (λ s. K ⊎ StopsForEvents s)
    → (end ≡ Done) ⊎ K ⊎ EndsForEvents end
ended_kept K (Ok done) end is kept = inl is
ended_kept K (Err (error.Fault fault)) end is (inl kept) = inr (inl kept)
ended_kept K (Err (error.Fault fault)) end is (inr of_events) = absurd of_events
ended_kept K (Err (error.File fault)) end is (inl kept) = inr (inl kept)
ended_kept K (Err (error.File fault)) end (is_reported, is) (inr of_events) = inr (inr (subst EndsForEvents (sym is) of_events))

-- the call ends for the file of the events as its request does
pub ended_late : (P : Type 0) (words : List Text) (request : Request)
    (fresh writer_old writer_new stream : Option (List ℕ))
    (store_old store_new : Text → Option (List ℕ)) (result : Result (Unit {0}) CommandError)
    (end : Ending)
    → AsksFor words request
    → EndsWith result end
    → IfErr result (λ s. StopsForEvents s → P ⊎ IsOutputAlone store_old store_new
    (held_by store_old stream (input_of request)) (begun_by fresh writer_old (output_of request))
    (held_by store_new writer_new (output_of request)) (output_of request) request.invocation)
    → EndsForEvents end
    → P ⊎ HasOutputAlone words (held_by store_old stream) (begun_by fresh writer_old)
    (held_by store_new writer_new) store_old store_new
ended_late P words request fresh writer_old writer_new stream store_old store_new (Ok done) end asked is late ends = absurd (subst EndsForEvents is ends)
ended_late P words request fresh writer_old writer_new stream store_old store_new (Err (error.Fault fault)) end asked (is_reported, is) late ends = absurd (subst EndsForEvents is ends)
ended_late P words request fresh writer_old writer_new stream store_old store_new (Err (error.File fault)) end asked (is_reported, is) late ends = elim (late (subst EndsForEvents is ends)) [
  | inl p ↦ inl p
  | inr alone ↦ inr (record { request = request; asked = asked; answered = alone.0; others = alone.1 })
]

is_not_done : (fault : Fault) (is_reported : Bool) → Failed fault is_reported ≡ Done → ⊥
is_not_done fault is_reported is = cc

file_not_done : (fault : FileFault) (is_reported : Bool) → FileFailed fault is_reported ≡ Done → ⊥
file_not_done fault is_reported is = cc

-- if the call is done, the file of the events holds them
pub ended_written : (words : List Text) (request : Request) (fresh : Option (List ℕ))
    (read : Option Text → Option (List ℕ)) (files : Text → Option (List ℕ)) (A : Type 0)
    (result : Result (Unit {0}) CommandError) (end : Ending)
    → AsksFor words request
    → EndsWith result end
    → OnOk result (IfSome (events_of request) (λ name. IfSome (read (input_of request))
    (λ b. WritesEvents request.invocation b fresh (files name))))
    → end ≡ Done
    → HoldsEvents words read fresh files ⊎ A
ended_written words request fresh read files A (Ok ok) end asked is written done = inl (request, asked, written)
ended_written words request fresh read files A (Err (error.Fault fault)) end asked (is_reported, is) written done = absurd (is_not_done fault is_reported (sym is ∙ done))
ended_written words request fresh read files A (Err (error.File fault)) end asked (is_reported, is) written done = absurd (file_not_done fault is_reported (sym is ∙ done))
