-- What the deeds of a thread say: which workers it gave tokens, and whether a call waits in its
-- mailbox.
use Rattle.std.specs.Prelude.{ℕ, Bool, true, false, Option, Some, None, List, [], ◌∷◌}
use Rattle.wake_calls.specs.declared.deed.WakeDeed.{WakeDeed}
use Rattle.wake_calls.specs.declared.deed.WakeDeed.TheVariants.{Gave, RoseForCall, TookCall}
use Rattle.wake_calls.specs.declared.waking.Wake.{Wake}
use Rattle.wake_calls.specs.declared.waking.Wake.TheVariants.{Nobody, Worker, Again}

-- The workers that it gave their tokens, the latest first.
abbrev pub given_in : List WakeDeed → List ℕ
given_in [] = []
given_in (Gave x ∷ ds) = x ∷ given_in ds
given_in (RoseForCall ∷ ds) = given_in ds
given_in (TookCall ∷ ds) = given_in ds

-- Whether it left its rest for a call that it has not taken out of its mailbox yet.
abbrev pub has_call : List WakeDeed → Bool
has_call [] = false
has_call (Gave x ∷ ds) = has_call ds
has_call (RoseForCall ∷ ds) = true
has_call (TookCall ∷ ds) = false

-- The deeds after a wake: the worker that it returns was given its token.
abbrev pub after_wake : Wake → List WakeDeed → List WakeDeed
after_wake Nobody ds = ds
after_wake (Worker x) ds = Gave x ∷ ds
after_wake (Again b) ds = ds

-- The same by whether a worker was woken.
abbrev pub after_gift : Option ℕ → List WakeDeed → List WakeDeed
after_gift (Some x) ds = Gave x ∷ ds
after_gift None ds = ds

-- The workers that were given tokens, and this one.
abbrev pub and_given : Option ℕ → List ℕ → List ℕ
and_given (Some x) given = x ∷ given
and_given None given = given
