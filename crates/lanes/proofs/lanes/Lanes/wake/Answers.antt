use Rattle.std.proofs.Common.{◌≡◌, ℕ, ◌<◌, ap, arith, subst, ◌∙◌}
use Rattle.wake_pool.specs.declared.phase.WakePhase.TheVariants.{Giving, Waking}
use Rattle.wake_calls.specs.declared.waking.Wake.{Wake}
use Rattle.wake_calls.specs.declared.waking.Wake.TheVariants.{Nobody, Worker, Again}
use Rattle.wake_calls.proofs.FirstLemmas.{same_worker}
use Rattle.wake_pool.specs.Words.{word_count}
use Rattle.lanes.specs.declared.sizes.Plan.{Plan}
use Rattle.lanes.specs.Lanes.{LanesId}
use Rattle.lanes.specs.Sleep.{SleeperOf}
use Rattle.lanes.specs.Inner.Step.{worker_in}
use Rattle.lanes.specs.Inner.Pool.{BothSat, phase_in}
use Rattle.lanes.proofs.AskLemmas.{goes_on, same_left}
use Rattle.lanes.proofs.lanes.Lanes.wake.Goals as goal

pub wake_check-woken-requires-clause-words : goal.wake_check-woken-requires-clause-words
wake_check-woken-requires-clause-words c = omega (arith, c.self.invariant.0, c.self.invariant.7)

pub invariant_of-sleeper : goal.invariant_of-sleeper
invariant_of-sleeper c =
    (goes_on c.sleeper.inside.plan c.sleeper.inside.number c.sleeper.inside.tails.items _ (Giving c.in-Worker.worker) c.sleeper.inside.seat.me c.wake_check-woken.new.seat.me c.sleeper.invariant.0 c.sleeper.invariant.1
    (c.wake_check-woken.ensures.woken c.in-Worker.worker c.in-Worker.is)).handle

pub returns-in-Worker-clause-known : goal.returns-in-Worker-clause-known
returns-in-Worker-clause-known c =
    ap (λ (z : BothSat). worker_in z.0.known.workers) (c.wake_check-woken.ensures.woken c.in-Worker.worker c.in-Worker.is) ∙ ap (λ (x : SleeperOf). x.known) c.sleeper.view_is

pub returns-in-Worker-clause-deeds : goal.returns-in-Worker-clause-deeds
returns-in-Worker-clause-deeds c =
    ap (λ (z : BothSat). z.0.deeds) (c.wake_check-woken.ensures.woken c.in-Worker.worker c.in-Worker.is) ∙ ap (λ (x : SleeperOf). x.deeds) c.sleeper.view_is

pub returns-in-Worker-clause-woken : goal.returns-in-Worker-clause-woken
returns-in-Worker-clause-woken c =
    λ x told. subst (λ (y : ℕ). phase_in c.wake_check-woken.new.seat.me.0.sleepers ≡ Giving y) (same_worker c.in-Worker.worker x told)
    (goes_on c.sleeper.inside.plan c.sleeper.inside.number c.sleeper.inside.tails.items _ (Giving c.in-Worker.worker) c.sleeper.inside.seat.me c.wake_check-woken.new.seat.me c.sleeper.invariant.0 c.sleeper.invariant.1
    (c.wake_check-woken.ensures.woken c.in-Worker.worker c.in-Worker.is)).phase

pub invariant_of-sleeper-in-Again : goal.invariant_of-sleeper-in-Again
invariant_of-sleeper-in-Again c =
    (goes_on c.sleeper.inside.plan c.sleeper.inside.number c.sleeper.inside.tails.items _ (Waking c.in-Again.left) c.sleeper.inside.seat.me c.wake_check-woken.new.seat.me c.sleeper.invariant.0 c.sleeper.invariant.1
    (c.wake_check-woken.ensures.again c.in-Again.left c.in-Again.is)).handle

pub returns-in-Again : goal.returns-in-Again
returns-in-Again c =
    let moves = c.wake_check-woken.ensures.again c.in-Again.left c.in-Again.is in
    record {
      id = (λ i. record { table = c.wake_check-woken.ensures.table i; plan = c.sleeper.inside.plan }) ∙ (ap (λ (x : SleeperOf). x.id) c.sleeper.view_is ∙ c.requires.id);
      known = ap (λ (z : BothSat). worker_in z.0.known.workers) moves ∙ ap (λ (x : SleeperOf). x.known) c.sleeper.view_is;
      deeds = ap (λ (z : BothSat). z.0.deeds) moves ∙ ap (λ (x : SleeperOf). x.deeds) c.sleeper.view_is;
      nobody = λ told. absurd (let e : ◌≡◌ {A = Wake} (Again c.in-Again.left) Nobody = told in cc);
      woken = λ x told. absurd (let e : ◌≡◌ {A = Wake} (Again c.in-Again.left) (Worker x) = told in cc);
      again = λ b told. subst (λ (y : ℕ). phase_in c.wake_check-woken.new.seat.me.0.sleepers ≡ Waking y) (same_left c.in-Again.left b told)
          (goes_on c.sleeper.inside.plan c.sleeper.inside.number c.sleeper.inside.tails.items _ (Waking c.in-Again.left) c.sleeper.inside.seat.me c.wake_check-woken.new.seat.me c.sleeper.invariant.0 c.sleeper.invariant.1 moves).phase;
      left = λ b told. subst (λ (y : ℕ). y < word_count c.args.self.now.plan.sleepers) (same_left c.in-Again.left b told)
          (subst (λ (p : Plan). c.in-Again.left < word_count p.sleepers) (ap (λ (x : LanesId). x.plan) c.self.view_is) (c.wake_check-woken.ensures.left c.in-Again.left c.in-Again.is));
      worker = λ x told. absurd (let e : ◌≡◌ {A = Wake} (Again c.in-Again.left) (Worker x) = told in cc);
    }
