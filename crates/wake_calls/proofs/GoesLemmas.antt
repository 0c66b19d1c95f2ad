-- A seat whose thread goes on to a phase, and then to another.
use Rattle.std.proofs.Common.{◌≡◌, ℕ, List, sym, ◌∙◌, ap, subst}
use Rattle.std.specs.Prelude.{map}
use Rattle.atomic_table.specs.Table.{State, Me}
use Rattle.wake_pool.specs.declared.phase.WakePhase.{WakePhase as Phase}
use Rattle.wake_calls.specs.declared.deed.WakeDeed.{WakeDeed}
use Rattle.wake_calls.specs.declared.rule.ThreadRecord.{ThreadRecord}
use Rattle.wake_calls.specs.Pool.{in_phase, PoolLaw}
use Rattle.wake_calls.specs.Thread.{moved, noting, thread, number_of, IsIn}

module _ {V K : Type 0} (threads : V → List ThreadRecord) (goes : Phase → V → V)
    (noted : WakeDeed → V → V) (holds : K → State (Unit {0}) V → Type 0) (workers lanes : K → ℕ)
    (law : PoolLaw threads goes noted holds workers lanes) where
  -- the later phase is that of the seat
  pub goes_again : (m : Me (Unit {0}) V) (p q : Phase) → moved goes q (moved goes p m) ≡ moved goes q m
  goes_again m p q = ap (λ (v : V). (v, m.1)) (law.again p q m.0)

  -- the thread of the seat
  pub goes_thread : (m : Me (Unit {0}) V) (t w l : ℕ) (p q : Phase)
      → threads m.0 ≡ thread t w l p
      → threads (moved goes q m).0 ≡ thread t w l q
  goes_thread m t w l p q is = law.given q m.0 ∙ ap (map (in_phase q)) is

  pub goes_in : (m : Me (Unit {0}) V) (w l : ℕ) (p q : Phase)
      → IsIn (threads m.0) w l p
      → IsIn (threads (moved goes q m).0) w l q
  goes_in m w l p q is =
      let now : threads (moved goes q m).0 ≡ thread (number_of (threads m.0)) w l q = goes_thread m (number_of (threads m.0)) w l p q is in
      now ∙ ap (λ (n : ℕ). thread n w l q) (sym (ap number_of now))

  -- of a seat that is named by an equation
  pub moved_thread : (m n : Me (Unit {0}) V) (t w l : ℕ) (p q : Phase)
      → n ≡ moved goes q m
      → threads m.0 ≡ thread t w l p
      → threads n.0 ≡ thread t w l q
  moved_thread m n t w l p q moved is = subst (λ (x : Me (Unit {0}) V). threads x.0 ≡ thread t w l q) (sym moved) (goes_thread m t w l p q is)

  pub moved_in : (m n : Me (Unit {0}) V) (w l : ℕ) (p q : Phase)
      → n ≡ moved goes q m
      → IsIn (threads m.0) w l p
      → IsIn (threads n.0) w l q
  moved_in m n w l p q moved is = subst (λ (x : Me (Unit {0}) V). IsIn (threads x.0) w l q) (sym moved) (goes_in m w l p q is)

  pub moved_again : (m n o : Me (Unit {0}) V) (p q : Phase)
      → n ≡ moved goes p m
      → o ≡ moved goes q n
      → o ≡ moved goes q m
  moved_again m n o p q first second = second ∙ ap (moved goes q) first ∙ goes_again m p q

  -- a seat whose thread is in this phase already
  pub goes_same : (m : Me (Unit {0}) V) (w l : ℕ) (p : Phase) → IsIn (threads m.0) w l p → m ≡ moved goes p m
  goes_same m w l p is =
      sym (ap (λ (v : V). (v, m.1)) (law.same m.0 (record { number = number_of (threads m.0); phase = p; workers = w; lanes = l }) is))

  -- the same, and it leaves a note
  pub noted_again : (m n o : Me (Unit {0}) V) (p q : Phase) (d : WakeDeed)
      → n ≡ moved goes p m
      → o ≡ noting noted d (moved goes q n)
      → o ≡ noting noted d (moved goes q m)
  noted_again m n o p q d first second = second
      ∙ ap (λ (x : Me (Unit {0}) V). noting noted d (moved goes q x)) first
      ∙ ap (noting noted d) (goes_again m p q)
