-- How a call of the program ends.
use Rattle.std.proofs.Common.{◌≡◌, ◌⊎◌, ℕ, Bool, List, Option, None, inl, inr, refl, subst, ◌∙◌}
use Rattle.clap.specs.Words.{IsAmong, Text}
use Rattle.clap.specs.declared.error.kind.ErrorKind.{ErrorKind}
use Rattle.clap.specs.declared.error.kind.ErrorKind.TheVariants.{DisplayHelp, DisplayVersion, OutOfMemory}
use Rattle.jobs_csv.specs.declared.fault.Fault.{Fault}
use Rattle.cli_args.specs.declared.invocation.Invocation.{Invocation}
use Rattle.cli_args.specs.declared.invocation.Request.{Request}
use Rattle.cli_args.specs.CommandLine.{AsksFor, AsksForHelp, faults_of}
use Rattle.cli_commands.specs.declared.program.Ending.{Ending}
use Rattle.cli_commands.specs.declared.program.Ending.TheVariants.{Done, Rejected, Failed, FileFailed}
use Rattle.cli_commands.specs.Answer.{IsMetBeforeWriting}
use Rattle.cli_commands.specs.Inner.Ending.{EndsAfter, EndsOn, IsShown}
use Rattle.cli_commands.specs.Program.{AsksForInput, AsksForOutput, AsksForProgress, EndsBeforeWriting, EndsBy, EndsForEvents, IsRefused, ShowsProgress, events_of, input_of, names, output_of}

-- a request that the words ask for, carried out
pub carried_out : (words : List Text) (request : Request)
    (read old new : Option Text → Option (List ℕ))
    (may_fail : Option Text → Option Text → Option Text → Invocation → Fault → Type 0)
    (ending : Ending)
    → AsksFor words request
    → EndsAfter request.invocation (read (input_of request)) (old (output_of request))
    (new (output_of request)) (may_fail (input_of request) (output_of request)
    (events_of request) request.invocation)
    (names (input_of request) (output_of request) (events_of request)) ending
    → EndsBy words read old new may_fail ending
carried_out words request read old new may_fail Done asks is = inl (request, asks, is)
carried_out words request read old new may_fail Rejected asks is = absurd is
carried_out words request read old new may_fail (Failed fault is_reported) asks is = inl (request, asks, is.0, is.1)
carried_out words request read old new may_fail (FileFailed fault is_reported) asks is = (request, asks, is)

-- a terminal shows a line of progress, and then where the input is refused
pub terminal_shown : {T : Type 0} (words : List Text) (request : Request) (ending : Ending)
    (old now new : T)
    → AsksFor words request
    → (now ≡ old) ⊎ ShowsProgress request.invocation
    → (new ≡ now) ⊎ IsRefused ending
    → (new ≡ old) ⊎ AsksForProgress words ⊎ IsRefused ending
terminal_shown words request ending old now new asks (inl first) (inl second) = inl (second ∙ first)
terminal_shown words request ending old now new asks (inr is) (inl second) = inr (inl (request, asks, is))
terminal_shown words request ending old now new asks first (inr refused) = inr (inr refused)

no_help : (kind : ErrorKind) → kind ≡ OutOfMemory → kind ≡ DisplayHelp → ⊥
no_help kind memory help = cc

no_version : (kind : ErrorKind) → kind ≡ OutOfMemory → kind ≡ DisplayVersion → ⊥
no_version kind memory version = cc

-- words whose error is shown ask for the help or the version
shown : (words : List Text) (kind : ErrorKind)
    → (kind ≡ OutOfMemory) ⊎ IsAmong kind (faults_of words)
    → IsShown kind
    → AsksForHelp words
shown words kind (inl memory) (inl help) = absurd (no_help kind memory help)
shown words kind (inl memory) (inr version) = absurd (no_version kind memory version)
shown words kind (inr among) (inl help) = inl (subst (λ k. IsAmong k (faults_of words)) help among)
shown words kind (inr among) (inr version) = inr (subst (λ k. IsAmong k (faults_of words)) version among)

-- words that have an error, explained
pub explained : (words : List Text) (kind : ErrorKind)
    (read old new : Option Text → Option (List ℕ))
    (may_fail : Option Text → Option Text → Option Text → Invocation → Fault → Type 0)
    (ending : Ending)
    → (kind ≡ OutOfMemory) ⊎ IsAmong kind (faults_of words)
    → EndsOn kind ending
    → EndsBy words read old new may_fail ending
explained words kind read old new may_fail Done has is = inr (shown words kind has is)
explained words kind read old new may_fail Rejected (inl memory) is = absurd (is.2 memory)
explained words kind read old new may_fail Rejected (inr among) is = (kind, among, is.0, is.1)
explained words kind read old new may_fail (Failed fault is_reported) has (is, inl memory) = inr (is, inl memory)
explained words kind read old new may_fail (Failed fault is_reported) has (is, inr shows) = inr (is, inr (shown words kind has shows))
explained words kind read old new may_fail (FileFailed fault is_reported) has is = absurd is

-- a request writes standard output only if it names no file
pub writes_output : {A : Type 0} (words : List Text) (request : Request)
    → AsksFor words request
    → A ⊎ (request.files.output ≡ None)
    → A ⊎ AsksForOutput words
writes_output words request asks (inl same) = inl same
writes_output words request asks (inr is) = inr (inr (request, asks, is))

-- and reads standard input only if it names none
pub reads_input : {A : Type 0} (words : List Text) (request : Request)
    → AsksFor words request
    → A ⊎ (request.files.input ≡ None)
    → A ⊎ AsksForInput words
reads_input words request asks (inl same) = inl same
reads_input words request asks (inr is) = inr (request, asks, is)

-- an error is shown on standard output only if the words ask for it
pub shows_help : {A : Type 0} (words : List Text) (kind : ErrorKind)
    → (kind ≡ OutOfMemory) ⊎ IsAmong kind (faults_of words)
    → A ⊎ IsShown kind
    → A ⊎ AsksForOutput words
shows_help words kind has (inl same) = inl same
shows_help words kind has (inr is) = inr (inl (shown words kind has is))

-- words that have an error: if the call ends before it writes, nothing is written
pub explained_before : (P : Type 0) (kind : ErrorKind) (end : Ending)
    → EndsOn kind end
    → (end ≡ Rejected → P)
    → ((fault : Fault) (is_reported : Bool) → end ≡ Failed fault is_reported
    → IsMetBeforeWriting fault → P)
    → EndsBeforeWriting end
    → P
explained_before P kind Done is rejected failed before = absurd before
explained_before P kind Rejected is rejected failed before = rejected refl
explained_before P kind (Failed fault is_reported) is rejected failed before = failed fault is_reported refl before
explained_before P kind (FileFailed fault is_reported) is rejected failed before = absurd is

-- and if it is done, they asked for the help or the version
pub explained_done : (words : List Text) (kind : ErrorKind) (end : Ending)
    → (kind ≡ OutOfMemory) ⊎ IsAmong kind (faults_of words)
    → EndsOn kind end
    → end ≡ Done
    → AsksForHelp words
explained_done words kind end has ends done = shown words kind has (subst (EndsOn kind) done ends)

-- nor does the call end for the file of the events
pub explained_late : (P : Type 0) (kind : ErrorKind) (end : Ending)
    → EndsOn kind end
    → EndsForEvents end
    → P
explained_late P kind Done ends late = absurd late
explained_late P kind Rejected ends late = absurd late
explained_late P kind (Failed fault is_reported) ends late = absurd late
explained_late P kind (FileFailed fault is_reported) ends late = absurd ends
