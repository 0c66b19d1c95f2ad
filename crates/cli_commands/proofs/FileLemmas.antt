-- The result of a request, with the files that it names.
use Rattle.std.proofs.Common.{◌≡◌, ℕ, Bool, true, false, List, Option, None, Some, Result, Ok, Err, IfErr, IfSome, OnOk, String, Global, option_map, string_bytes, refl, sym, ap, subst, ◌∙◌}
use Rattle.clap.specs.Words.{Text}
use Rattle.jobs_csv.specs.declared.fault.Fault.{Fault}
use Rattle.cli_args.specs.declared.invocation.Invocation.{Invocation}
use Rattle.cli_args.specs.declared.invocation.Invocation.TheVariants.{Run, RunLong, Report, Place, Replay}
use Rattle.cli_commands.specs.declared.files.CommandError.{CommandError}
use Rattle.cli_commands.specs.declared.files.CommandError.TheVariants as error
use Rattle.cli_commands.specs.Inner.Files.{EndsIn, IfFault, IfFile, IsOutcome, IsSettled}
use Rattle.cli_commands.specs.Inner.Recording.{IsFaultBeside}
use Rattle.cli_commands.specs.Program.{IsAnswerTo, IsFaultIn, IsFaultOf, names}
use Rattle.atomic_file.specs.Store.{KeepsFiles, KeepsOthers, begun_by, held_by}
use Rattle.atomic_file.specs.declared.file_fault.FileFault.{FileFault}
use Rattle.atomic_file.specs.declared.file_fault.FileSide.{FileSide}
use Rattle.atomic_file.specs.declared.file_fault.FileSide.TheVariants.{Input, Output, Events}

-- ---- the names of files

-- a file that is named
pub a_name : (file : Option (String Global)) (name : String Global) (text : Text)
    → file ≡ Some name
    → text ≡ string_bytes name
    → option_map string_bytes file ≡ Some text
a_name file name text is same = ap (option_map string_bytes) is ∙ ap Some (sym same)

-- no file is named
pub no_name : (file : Option (String Global)) → file ≡ None → option_map string_bytes file ≡ None
no_name file is = ap (option_map string_bytes) is

some_is_there : {A : Type 0} (x : A) → Some x ≡ None → ⊥
some_is_there x is = cc

-- ---- the faults of a request

-- a fault says nothing of what is written
pub same_fault : (invocation : Invocation) (read old new begun held : Option (List ℕ)) (fault : Fault)
    → IfSome read (λ b. IsAnswerTo invocation b old new (Err fault))
    → IfSome read (λ b. IsAnswerTo invocation b begun held (Err fault))
same_fault invocation None old new begun held fault is = tt
same_fault (Run shop) (Some b) old new begun held fault is = is
same_fault (RunLong shop) (Some b) old new begun held fault is = is
same_fault (Report shop) (Some b) old new begun held fault is = is
same_fault (Place n) (Some b) old new begun held fault is = is
same_fault (Replay n stations) (Some b) old new begun held fault is = is

-- the counts are those of the file that is read, not the reader's
of_file : (name : Text) (output events : Option Text) (file_before file_after rb ra wb wa : ℕ)
    (invocation : Invocation) (result : Result (Unit {0}) CommandError)
    → IfErr result (λ s. IfFault s (IsFaultIn file_before file_after wb wa None output events invocation))
    → IfErr result (λ s. IfFault s (IsFaultIn rb ra wb wa (Some name) output events invocation))
of_file name output events file_before file_after rb ra wb wa invocation (Ok done) is = tt
of_file name output events file_before file_after rb ra wb wa invocation (Err (error.File fault)) is = tt
of_file name output events file_before file_after rb ra wb wa invocation (Err (error.Fault fault)) is = record {
  reads = is.reads;
  writes = is.writes;
  of_reader = λ none. absurd (some_is_there name none);
  of_writer = is.of_writer;
  is = is.is;
}

names_more : (name : Text) (output events : Option Text) (side : FileSide)
    → names None output events side ≡ true
    → names (Some name) output events side ≡ true
names_more name output events Input is = refl
names_more name output events Output is = is
names_more name output events Events is = is

still_named : (name : Text) (output events : Option Text) (result : Result (Unit {0}) CommandError)
    → IfErr result (λ s. IfFile s (λ file. names None output events file.side ≡ true))
    → IfErr result (λ s. IfFile s (λ file. names (Some name) output events file.side ≡ true))
still_named name output events (Ok done) is = tt
still_named name output events (Err (error.Fault fault)) is = tt
still_named name output events (Err (error.File fault)) is = names_more name output events fault.side is

-- if no file changed, no other file changed
none_changed : (output : Option Text) (old new : List ℕ → Option (List ℕ))
    → KeepsFiles old new
    → KeepsOthers output old new
none_changed None old new kept = kept
none_changed (Some name) old new kept = λ file differs. kept file

-- ---- a request whose output is a file

module _ (fresh : Option (List ℕ)) (store_old store_new : List ℕ → Option (List ℕ))
    (read writer_old writer_new : Option (List ℕ)) (rb ra wb wa : ℕ) (name : Text)
    (events : Option Text) (invocation : Invocation) where
  -- no temporary file could be begun
  pub not_begun : (fault : FileFault)
      → fault.side ≡ Output
      → KeepsFiles store_old store_new
      → IsOutcome fresh store_old store_new read writer_old writer_new rb ra wb wa None (Some name)
      events invocation (Err (error.File fault))
  not_begun fault side kept = record {
    answered = tt;
    failed = tt;
    side = ap (names None (Some name) events) side;
    others = none_changed (Some name) store_old store_new kept;
    kept = kept;
  }

  module _ (store_between : List ℕ → Option (List ℕ))
      (begun : KeepsFiles store_old store_between) where
    -- the request failed, and the temporary file was discarded
    pub thrown_away : (temp_old temp_new : Option (List ℕ)) (before after : ℕ) (fault : Fault)
        → IfSome read (λ b. IsAnswerTo invocation b temp_old temp_new (Err fault))
        → IsFaultOf rb ra before after invocation fault
        → KeepsFiles store_between store_new
        → IsOutcome fresh store_old store_new read writer_old writer_new rb ra wb wa None
        (Some name) events invocation (Err (error.Fault fault))
    thrown_away temp_old temp_new before after fault answered is kept = record {
      answered = same_fault invocation read temp_old temp_new fresh (store_new name) fault answered;
      failed = record {
        reads = (rb, ra);
        writes = (before, after);
        of_reader = λ none. refl;
        of_writer = λ none no_events. absurd (some_is_there name none);
        is = is;
      };
      side = tt;
      others = λ file differs. kept file ∙ begun file;
      kept = λ file. kept file ∙ begun file;
    }

    -- the request was done, but the temporary file could not replace the file
    pub not_put : (fault : FileFault)
        → fault.side ≡ Output
        → KeepsFiles store_between store_new
        → IsOutcome fresh store_old store_new read writer_old writer_new rb ra wb wa None
        (Some name) events invocation (Err (error.File fault))
    not_put fault side kept = not_begun fault side (λ file. kept file ∙ begun file)

    -- the request was done, and the temporary file replaced the file
    pub put_there : (temp_old temp_new : Option (List ℕ))
        → temp_old ≡ fresh
        → store_new name ≡ temp_new
        → IfSome read (λ b. IsAnswerTo invocation b temp_old temp_new (Ok tt))
        → KeepsOthers (Some name) store_between store_new
        → IsOutcome fresh store_old store_new read writer_old writer_new rb ra wb wa None
        (Some name) events invocation (Ok tt)
    put_there temp_old temp_new is_fresh is_put answered others = record {
      answered = subst (λ (held : Option (List ℕ)). IfSome read (λ b. IsAnswerTo invocation b fresh held (Ok tt))) (sym is_put)
          (subst (λ (begins : Option (List ℕ)). IfSome read (λ b. IsAnswerTo invocation b begins temp_new (Ok tt))) is_fresh answered);
      failed = tt;
      side = tt;
      others = λ file differs. others file differs ∙ begun file;
      kept = tt;
    }

    -- the temporary file replaced the file or was discarded, by the answer of the command
    pub settled : (has_file : Bool) (temp_old temp_new : Option (List ℕ)) (before after : ℕ)
        (answer : Result (Unit {0}) Fault) (result : Result (Unit {0}) CommandError)
        → temp_old ≡ fresh
        → IfSome read (λ b. IsAnswerTo invocation b temp_old temp_new answer)
        → IfErr answer (IsFaultBeside has_file rb ra before after invocation)
        → IsSettled temp_new store_between store_new name answer result
        → IsOutcome fresh store_old store_new read writer_old writer_new rb ra wb wa None
        (Some name) events invocation result
    settled has_file temp_old temp_new before after (Err fault) result is_fresh answered (writes, tied, failed) (is, kept) = subst (IsOutcome fresh store_old store_new read writer_old writer_new rb ra wb wa None (Some name) events invocation) (sym is) (thrown_away temp_old temp_new writes.0 writes.1 fault answered failed kept)
    settled has_file temp_old temp_new before after (Ok done) (Ok put) is_fresh answered failed (is_put, others) = put_there temp_old temp_new is_fresh is_put answered others
    settled has_file temp_old temp_new before after (Ok done) (Err (error.Fault fault)) is_fresh answered failed is = absurd is
    settled has_file temp_old temp_new before after (Ok done) (Err (error.File fault)) is_fresh answered failed (side, kept) = not_put fault side kept

-- ---- a request whose output is a file or the writer

module _ (fresh : Option (List ℕ)) (store : List ℕ → Option (List ℕ))
    (read writer_old writer_new : Option (List ℕ)) (rb ra wb wa : ℕ) (output events : Option Text)
    (none : output ≡ None) (invocation : Invocation) where
  -- the request was done
  pub to_writer : IfSome read (λ b. IsAnswerTo invocation b writer_old writer_new (Ok tt))
      → IsOutcome fresh store store read writer_old writer_new rb ra wb wa None output events
      invocation (Ok tt)
  to_writer answered = subst (λ (o : Option Text). IsOutcome fresh store store read writer_old writer_new rb ra wb wa None o events invocation (Ok tt)) (sym none) (record {
    answered = answered;
    failed = tt;
    side = tt;
    others = λ file. refl;
    kept = tt;
  })

  -- it failed
  pub not_to_writer : (fault : Fault) (writes : ℕ × ℕ)
      → IfSome read (λ b. IsAnswerTo invocation b writer_old writer_new (Err fault))
      → (events ≡ None → writes ≡ (wb, wa))
      → IsFaultOf rb ra writes.0 writes.1 invocation fault
      → IsOutcome fresh store store read writer_old writer_new rb ra wb wa None output events
      invocation (Err (error.Fault fault))
  not_to_writer fault writes answered tied is = subst (λ (o : Option Text). IsOutcome fresh store store read writer_old writer_new rb ra wb wa None o events invocation (Err (error.Fault fault))) (sym none) (record {
    answered = answered;
    failed = record {
      reads = (rb, ra);
      writes = writes;
      of_reader = λ _. refl;
      of_writer = λ _. tied;
      is = is;
    };
    side = tt;
    others = λ file. refl;
    kept = λ file. refl;
  })

  -- the request was done or failed
  pub by_writer : (has_file : Bool) (answer : Result (Unit {0}) Fault)
      (result : Result (Unit {0}) CommandError)
      → (events ≡ None → has_file ≡ false)
      → OnOk answer (result ≡ Ok tt)
      → IfErr answer (λ fault. result ≡ Err (error.Fault fault))
      → IfSome read (λ b. IsAnswerTo invocation b writer_old writer_new answer)
      → IfErr answer (IsFaultBeside has_file rb ra wb wa invocation)
      → IsOutcome fresh store store read writer_old writer_new rb ra wb wa None output events
      invocation result
  by_writer has_file (Ok done) result no_file is none answered failed = subst (IsOutcome fresh store store read writer_old writer_new rb ra wb wa None output events invocation) (sym is) (to_writer answered)
  by_writer has_file (Err fault) result no_file none is answered (writes, tied, failed) = subst (IsOutcome fresh store store read writer_old writer_new rb ra wb wa None output events invocation) (sym is) (not_to_writer fault writes answered (λ no_events. tied (no_file no_events)) failed)

module _ (fresh : Option (List ℕ)) (store_old store_new : List ℕ → Option (List ℕ))
    (read writer_old writer_new : Option (List ℕ)) (rb ra wb wa : ℕ) (events : Option Text)
    (invocation : Invocation) (result : Result (Unit {0}) CommandError) where
  -- the output is the file of this name
  pub to_file : (output : Option Text) (name : Text)
      → output ≡ Some name
      → IsOutcome fresh store_old store_new read writer_old writer_new rb ra wb wa None (Some name)
      events invocation result
      → IsOutcome fresh store_old store_new read writer_old writer_new rb ra wb wa None output
      events invocation result
  to_file output name is outcome = subst (λ (o : Option Text). IsOutcome fresh store_old store_new read writer_old writer_new rb ra wb wa None o events invocation result) (sym is) outcome

  -- the input is the reader
  pub from_reader : (input output : Option Text)
      → input ≡ None
      → IsOutcome fresh store_old store_new read writer_old writer_new rb ra wb wa None output
      events invocation result
      → IsOutcome fresh store_old store_new (held_by store_old read input) writer_old writer_new rb
      ra wb wa input output events invocation result
  from_reader input output is outcome = subst (λ (i : Option Text). IsOutcome fresh store_old store_new (held_by store_old read i) writer_old writer_new rb ra wb wa i output events invocation result) (sym is) outcome

  -- the input is the file of this name
  pub from_file : (input output : Option Text) (name : Text) (file : Option (List ℕ))
      (before after : ℕ)
      → input ≡ Some name
      → file ≡ store_old name
      → IsOutcome fresh store_old store_new file writer_old writer_new before after wb wa None
      output events invocation result
      → IsOutcome fresh store_old store_new (held_by store_old read input) writer_old writer_new rb
      ra wb wa input output events invocation result
  from_file input output name file before after is held outcome = subst (λ (i : Option Text). IsOutcome fresh store_old store_new (held_by store_old read i) writer_old writer_new rb ra wb wa i output events invocation result) (sym is) (record {
    answered = subst (λ (r : Option (List ℕ)). EndsIn invocation r (begun_by fresh writer_old output) (held_by store_new writer_new output) result) held outcome.answered;
    failed = of_file name output events before after rb ra wb wa invocation result outcome.failed;
    side = still_named name output events result outcome.side;
    others = outcome.others;
    kept = outcome.kept;
  })

-- the file that is to be read could not be opened
pub not_opened : (fresh : Option (List ℕ)) (store : List ℕ → Option (List ℕ))
    (read writer_old writer_new : Option (List ℕ)) (rb ra wb wa : ℕ)
    (input output events : Option Text) (name : Text) (invocation : Invocation) (fault : FileFault)
    → input ≡ Some name
    → fault.side ≡ Input
    → IsOutcome fresh store store read writer_old writer_new rb ra wb wa input output events
    invocation (Err (error.File fault))
not_opened fresh store read writer_old writer_new rb ra wb wa input output events name invocation fault is side = subst (λ (i : Option Text). IsOutcome fresh store store read writer_old writer_new rb ra wb wa i output events invocation (Err (error.File fault))) (sym is) (record {
  answered = tt;
  failed = tt;
  side = ap (names (Some name) output events) side;
  others = none_changed output store store (λ file. refl);
  kept = λ file. refl;
})
