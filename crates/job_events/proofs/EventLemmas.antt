-- The fields of an event need no quotes; the events of replies, before and after they are sorted.
use Rattle.std.proofs.Common.{◌≡◌, ℕ, suc, ◌+◌, ◌<◌, ◌≤◌, ◌^◌, Bool, true, false, List, [], ◌∷◌, ◌++◌, codes, length, map, get_or, take, nat_lt, All, refl, sym, ap, ap₂, subst, ◌∙◌, arith}
use Rattle.std.specs.List.{flat_map, Contains}
use Rattle.std.specs.List.Sorted.{IsNonDecreasingBy, IsPermutation}
use Rattle.std.specs.Fmt.{decimal}
use Rattle.std.proofs.lemmas.Bool.Decides.{nat_tests}
use Rattle.std.proofs.lemmas.List.{append_assoc, append-nil, get_or-map, length-map, map_more, take_more}
use Rattle.std.proofs.lemmas.List.Elements.{All-cons, All-nil, All-weaker, at_read}
use Rattle.std.proofs.lemmas.List.Sorted.{Contains-permutation, IsPermutation-map}
use Rattle.dispatcher.specs.Answers.{all_replies}
use Rattle.job_types.specs.Reply.{ReplyData}
use Rattle.job_types.specs.declared.reply.JobId.{JobId}
use Rattle.jobs_csv.specs.Text.{IsPlainField}
use Rattle.jobs_csv.specs.declared.place_rows.PlaceRow.{PlaceRow}
use Rattle.jobs_csv.proofs.PlainLemmas.{all_both, plain_decimal, plain_text}
use Rattle.job_events.specs.Events.{AreEvents, IsBefore, free_of, job_name, row_of, take_of}
use Rattle.job_events.specs.Inner.{ArePairs, IsPair, command_text, outcome_text}
use Rattle.job_events.specs.declared.event.JobEvent.{JobEvent}
use Rattle.job_events.specs.declared.event.Step.{Step}
use Rattle.job_events.specs.declared.event.Step.TheVariants as step

-- ---- the texts

pub plain_command : (s : Step) → IsPlainField (command_text s)
plain_command step.Take = plain_text (codes "take") refl
plain_command step.Free = plain_text (codes "free") refl

pub plain_outcome : (s : Step) → IsPlainField (outcome_text s)
plain_outcome step.Take = plain_text (codes "given") refl
plain_outcome step.Free = plain_text (codes "freed") refl

pub plain_job_name : (id : JobId) → id.lane < 2 ^ 32 → id.seq < 2 ^ 64 → IsPlainField (job_name id)
plain_job_name id lane seq =
    let small : id.lane < 2 ^ 64 = omega (arith, lane) in
    let named = all_both (codes "l") (decimal id.lane) (plain_text (codes "l") refl) (plain_decimal id.lane small) in
    let parted = all_both (codes "l" ++ decimal id.lane) (codes "s") named (plain_text (codes "s") refl) in
    all_both (codes "l" ++ decimal id.lane ++ codes "s") (decimal id.seq) parted (plain_decimal id.seq seq)

-- ---- pairs

-- the pairs of some replies, and then those of more
pub pairs_append : (replies more : List ReplyData) (events later : List JobEvent)
    → ArePairs replies events
    → ArePairs more later
    → ArePairs (replies ++ more) (events ++ later)
pairs_append [] more events later none pairs = subst (λ (es : List JobEvent). ArePairs more (es ++ later)) (sym none) pairs
pairs_append (reply ∷ replies) more events later (taken, freed, others, is, pair, pairs) then =
    (taken, freed, others ++ later, ap (λ (es : List JobEvent). es ++ later) is, pair, pairs_append replies more others later pairs then)

-- the pair of one reply
pub one_pair : (reply : ReplyData) (taken freed : JobEvent)
    → IsPair reply taken freed
    → ArePairs (reply ∷ []) (taken ∷ freed ∷ [])
one_pair reply taken freed pair = (taken, freed, [], refl, pair, refl)

-- a list of replies of which one more is done
pub pairs_more : (before replies : List ReplyData) (i : ℕ) (d : ReplyData)
    (events new : List JobEvent) (taken freed : JobEvent)
    → i < length replies
    → ArePairs (before ++ take i replies) events
    → IsPair (get_or replies i d) taken freed
    → new ≡ events ++ taken ∷ freed ∷ []
    → ArePairs (before ++ take (i + 1) replies) new
pairs_more before replies i d events new taken freed within pairs pair is =
    let reply = get_or replies i d in
    let same : (before ++ take i replies) ++ reply ∷ [] ≡ before ++ take (i + 1) replies = append_assoc before (take i replies) (reply ∷ []) ∙ ap (λ (rs : List ReplyData). before ++ rs) (sym (take_more replies i d within)) in
    subst (λ (es : List JobEvent). ArePairs (before ++ take (i + 1) replies) es) (sym is)
    (subst (λ (rs : List ReplyData). ArePairs rs (events ++ taken ∷ freed ∷ [])) same
    (pairs_append (before ++ take i replies) (reply ∷ []) events (taken ∷ freed ∷ []) pairs (one_pair reply taken freed pair)))

-- the replies of one more worker
all_more : (lists : List (List ReplyData)) (list : List ReplyData)
    → all_replies lists [] ++ list ≡ all_replies (lists ++ list ∷ []) []
all_more [] list = sym (append-nil (list ++ []) ∙ append-nil list)
all_more (first ∷ lists) list =
    ap (λ (rs : List ReplyData). rs ++ list) (append_assoc first (flat_map (λ rs. rs) lists) [])
    ∙ append_assoc first (all_replies lists []) list
    ∙ ap (λ (rs : List ReplyData). first ++ rs) (all_more lists list)
    ∙ sym (append_assoc first (flat_map (λ rs. rs) (lists ++ list ∷ [])) [])

-- workers of which one more is done
pub worker_more : {X : Type 0} (items : X → List ReplyData) (workers : List X) (i : ℕ) (d : X)
    (events new : List JobEvent)
    → i < length workers
    → ArePairs (all_replies (map items (take i workers)) []) events
    → ((before : List ReplyData) → ArePairs before events
    → ArePairs (before ++ items (get_or workers i d)) new)
    → ArePairs (all_replies (map items (take (i + 1) workers)) []) new
worker_more items workers i d events new within pairs adds =
    let lists = map items (take i workers) in
    let list = items (get_or workers i d) in
    let same : all_replies lists [] ++ list ≡ all_replies (map items (take (i + 1) workers)) [] = all_more lists list ∙ ap (λ (ls : List (List ReplyData)). all_replies ls []) (sym (map_more items workers i d within)) in
    subst (λ (rs : List ReplyData). ArePairs rs new) same (adds (all_replies lists []) pairs)

-- all workers, and then the rest
pub rest_more : (by_worker : List (List ReplyData)) (rest : List ReplyData)
    (events new : List JobEvent)
    → ArePairs (all_replies by_worker []) events
    → ((before : List ReplyData) → ArePairs before events → ArePairs (before ++ rest) new)
    → ArePairs (all_replies by_worker rest) new
rest_more by_worker rest events new pairs adds =
    subst (λ (rs : List ReplyData). ArePairs (rs ++ rest) new) (append-nil (flat_map (λ rs. rs) by_worker)) (adds (all_replies by_worker []) pairs)

-- their rows
pair_rows : (replies : List ReplyData) (events : List JobEvent)
    → ArePairs replies events
    → map row_of events ≡ flat_map (λ reply. take_of reply ∷ free_of reply ∷ []) replies
pair_rows [] events none = ap (map row_of) none
pair_rows (reply ∷ replies) events (taken, freed, more, is, pair, pairs) =
    ap (map row_of) is ∙ ap₂ (λ one others. one ∷ others) pair.take (ap₂ (λ one others. one ∷ others) pair.free (pair_rows replies more pairs))

-- a list has both events of a reply
HasBoth : List JobEvent → ReplyData → Type 0
HasBoth events reply =
    (taken : JobEvent) × (freed : JobEvent) × Contains events taken × Contains events freed × IsPair reply taken freed

first_of : (x : JobEvent) (xs : List JobEvent) → Contains (x ∷ xs) x
first_of x xs = (0, omega arith, refl)

later_of : (y x : JobEvent) (xs : List JobEvent) → Contains xs x → Contains (y ∷ xs) x
later_of y x xs (k, lt, is) = (suc k, omega (arith, lt), is)

both_later : (a b : JobEvent) (events : List JobEvent) (reply : ReplyData)
    → HasBoth events reply
    → HasBoth (a ∷ b ∷ events) reply
unfolding HasBoth
both_later a b events reply (taken, freed, has, too, pair) =
    (taken, freed, later_of a taken (b ∷ events) (later_of b taken events has), later_of a freed (b ∷ events) (later_of b freed events too), pair)

all_both_there : (replies : List ReplyData) (events : List JobEvent)
    → ArePairs replies events
    → All (HasBoth events) replies
unfolding HasBoth
all_both_there [] events none = All-nil (HasBoth events)
all_both_there (reply ∷ replies) events (taken, freed, more, is, pair, pairs) =
    subst (λ (es : List JobEvent). All (HasBoth es) (reply ∷ replies)) (sym is)
    (All-cons (HasBoth (taken ∷ freed ∷ more)) reply replies
    (taken, freed, first_of taken (freed ∷ more), later_of taken freed (freed ∷ more) (first_of freed more), pair)
    (All-weaker (HasBoth more) (HasBoth (taken ∷ freed ∷ more)) (both_later taken freed more) replies (all_both_there replies more pairs)))

-- ---- in the order of their numbers

-- where numbers do not fall, the smaller one is earlier
earlier_of : (i j a b : ℕ) → (j ≤ i → b ≤ a) → a < b → i < j
earlier_of i j a b up lt = by_test (nat_lt i j) refl
  where
    by_test : (test : Bool) → nat_lt i j ≡ test → i < j
    by_test true is = grind (arith, nat_tests)
    by_test false is =
        let past : j ≤ i = grind (arith, nat_tests) in
        absurd (omega (arith, lt, up past))

-- a reply's take is before its free
before_if_sorted : (events : List JobEvent)
    → IsNonDecreasingBy (λ event. event.number) events
    → (reply : ReplyData)
    → HasBoth events reply
    → IsBefore (map row_of events) (take_of reply) (free_of reply)
unfolding HasBoth
before_if_sorted events up reply (taken, freed, (i, below, is), (j, within, same), pair) = record {
  i = i;
  j = j;
  earlier = earlier_of i j taken.number freed.number
      (λ le. subst (λ (b : JobEvent). b.number ≤ taken.number) (at_read events (λ e. e ≡ freed) j freed within (sym same) refl taken)
      (subst (λ (a : JobEvent). (get_or events j taken).number ≤ a.number) is (up j i taken le below))) pair.order;
  within = omega (arith, within, length-map events row_of);
  first = get_or-map row_of events i taken (take_of reply) below ∙ ap row_of is ∙ pair.take;
  second = get_or-map row_of events j freed (free_of reply) within ∙ ap row_of same ∙ pair.free;
}

both_after : (events sorted : List JobEvent) (reply : ReplyData)
    → IsPermutation events sorted
    → HasBoth events reply
    → HasBoth sorted reply
unfolding HasBoth
both_after events sorted reply same (taken, freed, has, too, pair) =
    (taken, freed, Contains-permutation events sorted taken same has, Contains-permutation events sorted freed same too, pair)

-- pairs in the order of their numbers are the events of their replies
pub sorted_pairs : (replies : List ReplyData) (events sorted : List JobEvent)
    → ArePairs replies events
    → IsPermutation events sorted
    → IsNonDecreasingBy (λ event. event.number) sorted
    → AreEvents replies sorted
sorted_pairs replies events sorted pairs same up = record {
  all = subst (λ (rows : List PlaceRow). IsPermutation rows (map row_of sorted)) (pair_rows replies events pairs) (IsPermutation-map row_of events sorted same);
  ordered = All-weaker (HasBoth events) (λ reply. IsBefore (map row_of sorted) (take_of reply) (free_of reply))
      (λ reply has. before_if_sorted sorted up reply (both_after events sorted reply same has)) replies (all_both_there replies events pairs);
}
