-- How a call ends whose words have an error, and why a device is to blame.
use Rattle.std.proofs.Common.{◌≡◌, ◌⊎◌, ℕ, Bool, true, false, List, Option, inl, inr, if◌then◌else◌, refl, ap, subst, ◌∙◌}
use Rattle.clap.specs.Words.{App, IsAmong, Text, fault_of}
use Rattle.clap.specs.declared.error.kind.ErrorKind.{ErrorKind}
use Rattle.clap.specs.declared.error.kind.ErrorKind.TheVariants.{DisplayHelp, DisplayVersion, OutOfMemory}
use Rattle.jobs_csv.specs.Fault.{attribute, has_failed}
use Rattle.jobs_csv.specs.declared.fault.Fault.{Fault}
use Rattle.jobs_csv.specs.declared.fault.FaultKind.{FaultKind}
use Rattle.jobs_csv.specs.declared.fault.FaultKind.TheVariants as what
use Rattle.cli_args.specs.CheckLine.{check_app}
use Rattle.cli_args.specs.MessagesLine.{messages_app}
use Rattle.cli_tools.specs.Check.{EndsCheck}
use Rattle.cli_tools.specs.Inner.{IsExplained}
use Rattle.cli_tools.specs.Messages.{AsksForHelp, EndsMessages}
use Rattle.cli_tools.specs.declared.ending.ToolEnding.{ToolEnding}
use Rattle.cli_tools.specs.declared.ending.ToolEnding.TheVariants.{Done, Refused, Rejected, Failed, FileFailed}

no_help : (kind : ErrorKind) → kind ≡ OutOfMemory → kind ≡ DisplayHelp → ⊥
no_help kind memory help = cc

no_version : (kind : ErrorKind) → kind ≡ OutOfMemory → kind ≡ DisplayVersion → ⊥
no_version kind memory version = cc

-- words whose error is shown ask for the help or the version
shown : (app : App) (words : List Text) (kind : ErrorKind)
    → (kind ≡ OutOfMemory) ⊎ IsAmong kind (fault_of app words)
    → (kind ≡ DisplayHelp) ⊎ (kind ≡ DisplayVersion)
    → AsksForHelp app words
shown app words kind (inl memory) (inl help) = absurd (no_help kind memory help)
shown app words kind (inl memory) (inr version) = absurd (no_version kind memory version)
shown app words kind (inr among) (inl help) = inl (subst (λ k. IsAmong k (fault_of app words)) help among)
shown app words kind (inr among) (inr version) = inr (subst (λ k. IsAmong k (fault_of app words)) version among)

-- a device is to blame, or memory ran out
by_count : (device : FaultKind) (has : Bool)
    → ((if has then device else what.OutOfMemory) ≡ device)
    ⊎ ((if has then device else what.OutOfMemory) ≡ what.OutOfMemory)
by_count device true = inl refl
by_count device false = inr refl

pub blamed : (device : FaultKind) (before after : ℕ) (fault : Fault)
    → fault ≡ attribute device before after
    → (fault.what ≡ device) ⊎ (fault.what ≡ what.OutOfMemory)
blamed device before after fault is =
    let kind = ap (λ (f : Fault). f.what) is in
    elim (by_count device (has_failed before after)) [
      | inl same ↦ inl (kind ∙ same)
      | inr memory ↦ inr (kind ∙ memory)
    ]

-- the fault of a listing
pub read_or_written : (fault : Fault) (rb ra wb wa : ℕ)
    → (fault ≡ attribute what.Read rb ra) ⊎ (fault ≡ attribute what.Write wb wa)
    → (fault.what ≡ what.Read) ⊎ (fault.what ≡ what.Write) ⊎ (fault.what ≡ what.OutOfMemory)
read_or_written fault rb ra wb wa (inl is) = elim (blamed what.Read rb ra fault is) [
  | inl same ↦ inl same
  | inr memory ↦ inr (inr memory)
]
read_or_written fault rb ra wb wa (inr is) = elim (blamed what.Write wb wa fault is) [
  | inl same ↦ inr (inl same)
  | inr memory ↦ inr (inr memory)
]

-- words of `messages` that have an error, explained
pub messages_explained : (words : List Text) (kind : ErrorKind) (old new : Option (List ℕ))
    (unwritten : Fault) (ending : ToolEnding)
    → (kind ≡ OutOfMemory) ⊎ IsAmong kind (fault_of messages_app words)
    → IsExplained kind unwritten ending
    → EndsMessages words old new unwritten ending
messages_explained words kind old new unwritten Done has is = inl (shown messages_app words kind has is)
messages_explained words kind old new unwritten Refused has is = absurd is
messages_explained words kind old new unwritten Rejected (inl memory) is = absurd (is.2 memory)
messages_explained words kind old new unwritten Rejected (inr among) is = inl (kind, among, is.0, is.1)
messages_explained words kind old new unwritten (Failed fault) has is = is
messages_explained words kind old new unwritten (FileFailed fault) has is = absurd is

-- words of `check` that have an error, explained
pub check_explained : (words : List Text) (kind : ErrorKind)
    (read : Option Text → Option (List ℕ)) (old new : Option (List ℕ)) (wb wa : ℕ)
    (ending : ToolEnding)
    → (kind ≡ OutOfMemory) ⊎ IsAmong kind (fault_of check_app words)
    → IsExplained kind (attribute what.Write wb wa) ending
    → EndsCheck words read old new ending
check_explained words kind read old new wb wa Done has is = inl (shown check_app words kind has is)
check_explained words kind read old new wb wa Refused has is = absurd is
check_explained words kind read old new wb wa Rejected (inl memory) is = absurd (is.2 memory)
check_explained words kind read old new wb wa Rejected (inr among) is = (kind, among, is.0, is.1)
check_explained words kind read old new wb wa (Failed fault) has (inl is) = read_or_written fault 0 0 wb wa (inr is)
check_explained words kind read old new wb wa (Failed fault) has (inr is) = inr (inr (ap (λ (f : Fault). f.what) is))
check_explained words kind read old new wb wa (FileFailed fault) has is = absurd is
