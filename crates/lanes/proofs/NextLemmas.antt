-- The rule after one more deed in one lane: that lane's words and one record change, and all other
-- lanes, words and records stay.
use Rattle.std.proofs.Common.{◌≡◌, ◌≢◌, ℕ, zero, suc, ◌+◌, ◌<◌, ◌⊎◌, inl, inr, Bool, true, false, cond, eq-eqb, ne_eqb, Option, Some, List, [], ◌∷◌, get_or, set, sym, refl, ap, ◌∙◌, subst, arith}
use Rattle.std.proofs.lemmas.List.{length-set, get_or-set_same, get_or-set_other, set-get_or}
use mathlib.Core.Logic.{dite}
use native.Mathlib.Decide.{ℕ_discrete}
use mathlib.Core.Option.{some}
use lib.ListN.{get_elem?}
use Rattle.atomic_table.specs.Table.{State, keeps, stepped}
use Rattle.ghost_history.proofs.ViewLemmas.{stays, steps}
use Rattle.lanes.specs.declared.sizes.TheConstants.{CLOSED, TAIL}
use Rattle.lanes.specs.declared.sizes.Plan.{Plan}
use Rattle.lanes.specs.declared.record.LaneRecord.{LaneRecord}
use Rattle.lanes.specs.declared.record.TakeRecord.{TakeRecord}
use Rattle.lanes.specs.declared.record.WorkerRecord.{WorkerRecord}
use Rattle.lanes.specs.declared.view.CloserRecord.{CloserRecord}
use Rattle.lanes.specs.declared.view.View.{View}
use Rattle.lanes.specs.Layout.{lane_words, lane_start}
use Rattle.lanes.specs.Record.{fresh_take, take_of, with_take}
use Rattle.lanes.specs.History.{LaneAct, TakeAct, Deed, by_lane, by_worker, closes, count, taken, filled, filled_dims, payload_of, dim_of, closed_at, is_shut, lane_after, lane_part, take_after, take_part, LaneMay, TakeMay, May, IsLegal}
use Rattle.lanes.specs.Inner.View.{closer, lane_view, worker_view, closer_view}
use Rattle.lanes.specs.Inner.Rule.{Histories, with_deed, tail_word, lane_at, worker_of, worker_at, closer_at, LaneWords, reads, LanesKept, Keeps}
use Rattle.lanes.proofs.ListLemmas.{numbered-same, numbered-set, numbered-at}
use Rattle.lanes.proofs.LayoutLemmas.{lane-inside, lanes-apart}
use Rattle.lanes.proofs.HistoryLemmas.{take_own, take_other, Knows, Sound, sound}
use Rattle.lanes.proofs.WordLemmas.{Written, words-same, unchanged}

abbrev pub St : Type 0
St = State (Unit {0}) View

abbrev pub lanes_in : View → List LaneRecord
lanes_in v = v.lanes

abbrev pub workers_in : View → List WorkerRecord
workers_in v = v.workers

abbrev pub closers_in : View → List CloserRecord
closers_in v = v.closers

abbrev pub lane_number : LaneRecord → ℕ
lane_number r = r.number

abbrev pub worker_number : WorkerRecord → ℕ
worker_number r = r.number

abbrev pub closer_number : CloserRecord → ℕ
closer_number r = 0

-- the mark is there, or it is not
pub shut_or_open : (b : Bool) → (b ≡ true) ⊎ (b ≡ false)
shut_or_open true = inl refl
shut_or_open false = inr refl

-- ---- the histories after one more deed in one lane

module _ (hs : Histories) (l : ℕ) (d : Deed) where
  pub with-here : with_deed l d hs l ≡ d ∷ hs l
  with-here = ap (λ b. cond b (d ∷ hs l) (hs l)) (eq-eqb l l refl)

  pub with-other : (j : ℕ) → j ≢ l → with_deed l d hs j ≡ hs j
  with-other j other = ap (λ b. cond b (d ∷ hs j) (hs j)) (ne_eqb j l other)

  pub with-all : (P : ℕ → List Deed → Type 0)
      → P l (d ∷ hs l)
      → ((j : ℕ) → j ≢ l → P j (hs j))
      → (j : ℕ)
      → P j (with_deed l d hs j)
  with-all P here others j =
      dite (ℕ_discrete j l)
      (λ e. subst (λ i. P i (with_deed l d hs i)) (sym e) (subst (P l) (sym with-here) here))
      (λ ne. subst (P j) (sym (with-other j ne)) (others j ne))

  -- what the deed leaves as it was in its lane, it leaves in all
  pub with-same : {A : Type 0} (f : ℕ → List Deed → A)
      → f l (d ∷ hs l) ≡ f l (hs l)
      → (j : ℕ)
      → f j (with_deed l d hs j) ≡ f j (hs j)
  with-same f same = with-all (λ j h. f j h ≡ f j (hs j)) same (λ j other. refl)

shifted : (b p o : ℕ) → p ≢ o → b + p ≢ b + o
shifted b p o other e = other (omega (arith, e))

module _ (plan : Plan) (s : St) (k : LanesKept plan s) (id : ℕ) where
  pub all_sound : (l : ℕ) → Sound plan.sizes l (k.histories l)
  all_sound l = sound plan.sizes l (k.histories l) (k.legal l)

  -- ---- the words

  -- one word of the lane is written
  pub written : (l o new : ℕ)
      → l < plan.sizes.lanes
      → o < lane_words plan.sizes.capacity
      → Written (reads plan s.words l)
      (reads plan (set s.words (lane_start plan l + o) new) l) o new
  written l o new low within = record {
    here = get_or-set_same s.words (lane_start plan l + o) new 0 (subst (λ (n : ℕ). lane_start plan l + o < n) (sym k.long) (lane-inside plan l o low within));
    others = λ p other. get_or-set_other s.words (lane_start plan l + o) (lane_start plan l + p) new 0 (shifted (lane_start plan l) p o other);
  }

  -- a word is written as it was
  pub kept_words : (i l p : ℕ)
      → reads plan (set s.words i (get_or s.words i 0)) l p ≡ reads plan s.words l p
  kept_words i l p = ap (λ (ws : List ℕ). get_or ws (lane_start plan l + p) 0) (set-get_or s.words i 0)

  words_next : (l : ℕ) (d : Deed) (o new : ℕ) → o < lane_words plan.sizes.capacity
      → LaneWords plan.sizes.capacity (d ∷ k.histories l)
      (reads plan (set s.words (lane_start plan l + o) new) l)
      → (j : ℕ)
      → j < plan.sizes.lanes
      → LaneWords plan.sizes.capacity (with_deed l d k.histories j)
      (reads plan (set s.words (lane_start plan l + o) new) j)
  words_next l d o new within here =
      let ws = set s.words (lane_start plan l + o) new in
      with-all k.histories l d (λ j h. j < plan.sizes.lanes → LaneWords plan.sizes.capacity h (reads plan ws j))
      (λ low. here)
      (λ j other low. words-same plan.sizes.capacity k.some_room (k.histories j) (reads plan s.words j) (reads plan ws j)
      (λ p inside. get_or-set_other s.words (lane_start plan l + o) (lane_start plan j + p) new 0 (lanes-apart plan l j o p (λ e. other (sym e)) within inside))
      (k.words j low))

  -- ---- the records that stay

  lanes_same : (l : ℕ) (d : Deed)
      → lane_part plan.sizes.capacity l (d ∷ k.histories l)
      ≡ lane_part plan.sizes.capacity l (k.histories l)
      → (j : ℕ)
      → lane_at plan (with_deed l d k.histories) j ≡ lane_at plan k.histories j
  lanes_same l d same = with-same k.histories l d (lane_part plan.sizes.capacity) same

  worker_same : (l : ℕ) (d : Deed) (w : ℕ)
      → take_part (d ∷ k.histories l) w ≡ take_part (k.histories l) w
      → worker_at plan (with_deed l d k.histories) w ≡ worker_at plan k.histories w
  worker_same l d w same = ap (worker_of plan w) (numbered-same (λ j. take_part (k.histories j) w) (λ j. take_part (with_deed l d k.histories j) w) 0 plan.sizes.lanes (with-same k.histories l d (λ j h. take_part h w) same))

  closer_same : (l : ℕ) (d : Deed)
      → closed_at (d ∷ k.histories l) ≡ closed_at (k.histories l)
      → (j : ℕ)
      → closer_at plan (with_deed l d k.histories) j ≡ closer_at plan k.histories j
  closer_same l d same zero = ap (closer plan) (numbered-same (λ j. closed_at (k.histories j)) (λ j. closed_at (with_deed l d k.histories j)) 0 plan.sizes.lanes (with-same k.histories l d (λ j h. closed_at h) same))
  closer_same l d same (suc j) = refl

  only_closer : (l : ℕ) (d : Deed) (j : ℕ)
      → j ≢ 0
      → closer_at plan (with_deed l d k.histories) j ≡ closer_at plan k.histories j
  only_closer l d zero other = absurd (other refl)
  only_closer l d (suc j) other = refl

  -- ---- a deed of a producer

  pub lane_mine : (r : LaneRecord)
      → get_elem? s.views id ≡ some (lane_view r)
      → (r ≡ lane_at plan k.histories r.number) × (r.number < plan.sizes.lanes)
  lane_mine r me = (k.lanes.each id (lane_view r) me).0

  pub lane_next : (r : LaneRecord)
      → get_elem? s.views id ≡ some (lane_view r)
      → (a : LaneAct) (o new : ℕ)
      → (lane_after a r).number ≡ r.number
      → LaneMay (k.histories r.number) r a
      → o < lane_words plan.sizes.capacity
      → LaneWords plan.sizes.capacity (by_lane a ∷ k.histories r.number)
      (reads plan (set s.words (lane_start plan r.number + o) new) r.number)
      → Keeps plan
      (stepped s (lane_start plan r.number + o) new id [] (lane_view (lane_after a r)) keeps)
  lane_next r me a o new same_number may within words =
      let l = r.number in
      let v = lane_view r in
      let w = lane_view (lane_after a r) in
      let d = by_lane a in
      let hs = with_deed l d k.histories in
      let mine = lane_mine r me in
      let cap = plan.sizes.capacity in
      record {
        kept = record {
          histories = hs;
          legal = with-all k.histories l d (IsLegal plan.sizes) (subst (λ (z : LaneRecord). LaneMay (k.histories l) z a) mine.0 may, k.legal l) (λ j other. k.legal j);
          some_room = k.some_room;
          long = length-set s.words (lane_start plan l + o) new ∙ k.long;
          words = words_next l d o new within words;
          lanes = steps lanes_in lane_number s.views k.lanes id v me (lane_at plan hs) w r (lane_after a r) refl refl same_number (ap (lane_part cap l) (with-here k.histories l d) ∙ ap (lane_after a) (sym mine.0)) (λ j other. ap (lane_part cap j) (with-other k.histories l d j other));
          workers = stays workers_in worker_number s.views k.workers id v me (worker_at plan hs) w refl (λ j. worker_same l d j refl);
          closers = stays closers_in closer_number s.views k.closers id v me (closer_at plan hs) w refl (closer_same l d refl);
        };
      }

  -- ---- a deed of a worker

  pub worker_mine : (r : WorkerRecord)
      → get_elem? s.views id ≡ some (worker_view r)
      → (r ≡ worker_at plan k.histories r.number) × (r.number < plan.sizes.workers)
  worker_mine r me = (k.workers.each id (worker_view r) me).0

  pub take_mine : (r : WorkerRecord)
      → get_elem? s.views id ≡ some (worker_view r)
      → (l : ℕ)
      → l < plan.sizes.lanes
      → take_of l r ≡ take_part (k.histories l) r.number
  take_mine r me l low = ap (take_of l) (worker_mine r me).0 ∙ numbered-at (λ j. take_part (k.histories j) r.number) plan.sizes.lanes l fresh_take low

  pub worker_knows : (r : WorkerRecord)
      → get_elem? s.views id ≡ some (worker_view r)
      → (l : ℕ)
      → l < plan.sizes.lanes
      → Knows (k.histories l) (take_of l r)
  worker_knows r me l low = subst (Knows (k.histories l)) (sym (take_mine r me l low)) ((all_sound l).workers r.number)

  pub worker_next : (r : WorkerRecord)
      → get_elem? s.views id ≡ some (worker_view r)
      → (l : ℕ)
      → l < plan.sizes.lanes
      → (a : TakeAct) (o new : ℕ)
      → TakeMay (k.histories l) (take_of l r) a
      → o < lane_words plan.sizes.capacity
      → LaneWords plan.sizes.capacity (by_worker r.number a ∷ k.histories l)
      (reads plan (set s.words (lane_start plan l + o) new) l)
      → Keeps plan
      (stepped s (lane_start plan l + o) new id [] (worker_view (with_take l (take_after a (take_of l r)) r)) keeps)
  worker_next r me l low a o new may within words =
      let n = r.number in
      let v = worker_view r in
      let t = take_after a (take_of l r) in
      let w = worker_view (with_take l t r) in
      let d = by_worker n a in
      let hs = with_deed l d k.histories in
      let mine = worker_mine r me in
      let is = take_mine r me l low in
      let f : ℕ → TakeRecord = λ j. take_part (k.histories j) n in
      let g : ℕ → TakeRecord = λ j. take_part (hs j) n in
      let own : g l ≡ t = ap (λ h. take_part h n) (with-here k.histories l d) ∙ (take_own a (k.histories l) n ∙ ap (take_after a) (sym is)) in
      let now : worker_at plan hs n ≡ with_take l t r =
      ap (worker_of plan n) (numbered-set f g plan.sizes.lanes l low (λ j other. ap (λ h. take_part h n) (with-other k.histories l d j other)))
      ∙ (ap (λ (z : TakeRecord). with_take l z (worker_at plan k.histories n)) own ∙ ap (with_take l t) (sym mine.0)) in
      record {
        kept = record {
          histories = hs;
          legal = with-all k.histories l d (IsLegal plan.sizes) ((mine.1, subst (λ (z : TakeRecord). TakeMay (k.histories l) z a) is may), k.legal l) (λ j other. k.legal j);
          some_room = k.some_room;
          long = length-set s.words (lane_start plan l + o) new ∙ k.long;
          words = words_next l d o new within words;
          lanes = stays lanes_in lane_number s.views k.lanes id v me (lane_at plan hs) w refl (lanes_same l d refl);
          workers = steps workers_in worker_number s.views k.workers id v me (worker_at plan hs) w r (with_take l t r) refl refl refl now (λ j other. worker_same l d j (take_other n a (k.histories l) j other));
          closers = stays closers_in closer_number s.views k.closers id v me (closer_at plan hs) w refl (closer_same l d refl);
        };
      }

  -- ---- a deed of the closer

  pub closer_mine : (r : CloserRecord)
      → get_elem? s.views id ≡ some (closer_view r)
      → r ≡ closer_at plan k.histories 0
  closer_mine r me = (k.closers.each id (closer_view r) me).0.0

  pub closer_next : (r : CloserRecord)
      → get_elem? s.views id ≡ some (closer_view r)
      → (l : ℕ)
      → l < plan.sizes.lanes
      → (number o new : ℕ)
      → May plan.sizes l (k.histories l) (closes number)
      → o < lane_words plan.sizes.capacity
      → LaneWords plan.sizes.capacity (closes number ∷ k.histories l)
      (reads plan (set s.words (lane_start plan l + o) new) l)
      → Keeps plan
      (stepped s (lane_start plan l + o) new id [] (closer_view (closer r.plan (set r.closed l (Some number)))) keeps)
  closer_next r me l low number o new may within words =
      let v = closer_view r in
      let r' = closer r.plan (set r.closed l (Some number)) in
      let w = closer_view r' in
      let d = closes number in
      let hs = with_deed l d k.histories in
      let f : ℕ → Option ℕ = λ j. closed_at (k.histories j) in
      let g : ℕ → Option ℕ = λ j. closed_at (hs j) in
      let now : closer_at plan hs 0 ≡ r' =
      ap (closer plan) (numbered-set f g plan.sizes.lanes l low (λ j other. ap closed_at (with-other k.histories l d j other)) ∙ ap (set (closer_at plan k.histories 0).closed l) (ap closed_at (with-here k.histories l d)))
      ∙ ap (λ (z : CloserRecord). closer z.plan (set z.closed l (Some number))) (sym (closer_mine r me)) in
      record {
        kept = record {
          histories = hs;
          legal = with-all k.histories l d (IsLegal plan.sizes) (may, k.legal l) (λ j other. k.legal j);
          some_room = k.some_room;
          long = length-set s.words (lane_start plan l + o) new ∙ k.long;
          words = words_next l d o new within words;
          lanes = stays lanes_in lane_number s.views k.lanes id v me (lane_at plan hs) w refl (lanes_same l d refl);
          workers = stays workers_in worker_number s.views k.workers id v me (worker_at plan hs) w refl (λ j. worker_same l d j refl);
          closers = steps closers_in closer_number s.views k.closers id v me (closer_at plan hs) w r r' refl refl refl now (only_closer l d);
        };
      }

  -- ---- a step that changes no word

  pub still_words : (l : ℕ) (d : Deed) (o : ℕ)
      → l < plan.sizes.lanes
      → count (d ∷ k.histories l) ≡ count (k.histories l)
      → is_shut (d ∷ k.histories l) ≡ is_shut (k.histories l)
      → taken (d ∷ k.histories l) ≡ taken (k.histories l)
      → filled (d ∷ k.histories l) ≡ filled (k.histories l)
      → filled_dims (d ∷ k.histories l) ≡ filled_dims (k.histories l)
      → ((j : ℕ) → payload_of (d ∷ k.histories l) j ≡ payload_of (k.histories l) j)
      → ((j : ℕ) → dim_of (d ∷ k.histories l) j ≡ dim_of (k.histories l) j)
      → LaneWords plan.sizes.capacity (d ∷ k.histories l)
      (reads plan (set s.words (lane_start plan l + o) (get_or s.words (lane_start plan l + o) 0)) l)
  still_words l d o low same_count same_mark same_taken same_filled same_dims same_payload same_dim =
      let i = lane_start plan l + o in
      unchanged plan.sizes.capacity k.some_room (k.histories l) (d ∷ k.histories l) (reads plan s.words l) (reads plan (set s.words i (get_or s.words i 0)) l) (k.words l low) (kept_words i l) same_count same_mark same_taken same_filled same_dims same_payload same_dim

  -- ---- what the first word of a lane is, as the mark is there or not

  pub small : (l : ℕ) → count (k.histories l) < CLOSED
  small l = omega (arith, (all_sound l).counts.5)

  pub tail_shut : (l : ℕ)
      → l < plan.sizes.lanes
      → is_shut (k.histories l) ≡ true
      → get_or s.words (lane_start plan l + TAIL) 0 ≡ count (k.histories l) + CLOSED
  tail_shut l low shut = (k.words l low).tail ∙ ap (tail_word (count (k.histories l))) shut

  pub tail_open : (l : ℕ)
      → l < plan.sizes.lanes
      → is_shut (k.histories l) ≡ false
      → get_or s.words (lane_start plan l + TAIL) 0 ≡ count (k.histories l)
  tail_open l low still = let zero_more : count (k.histories l) + 0 ≡ count (k.histories l) = omega arith in (k.words l low).tail ∙ (ap (tail_word (count (k.histories l))) still ∙ zero_more)
