-- The order in which messages are counted: no two messages have one number, and the rounds rise.
use Rattle.std.proofs.Common.{◌≡◌, ℕ, ◌+◌, ◌-◌, ◌*◌, ◌/◌, ◌%◌, ◌^◌, ◌<◌, ◌≤◌, inl, inr, refl, sym, ◌∙◌, ap, subst, arith}
use Rattle.std.specs.Prelude.{bit_xor}
use Rattle.std.proofs.lemmas.Nat.{xor_comm, xor_lt, pow-add, pow_pos, pow_below, shr_below, shr_split, mul-le}
use Rattle.std.proofs.lemmas.Bool.{cases_lt}
use Rattle.std.proofs.Math.Pow.{pow_mono}
use Rattle.collectives.specs.declared.shape.Shape.{Shape}
use Rattle.collectives.specs.declared.shape.Shape.TheVariants.{Broadcast, Reduce, AllReduce, Scan}
use Rattle.collectives.specs.declared.message.Message.{Message}
use Rattle.collectives.specs.Shape.{message_count}
use Rattle.collectives.specs.Messages.{IsAlongAnEdge, IsBroadcastMessage, IsReduceMessage, IsExchangeMessage, IsMessage, messages_before, number_in_round, message_number}
use Rattle.collectives.specs.Inner.OperationLaws.{xor_assoc}
use Rattle.collectives.proofs.XorLemmas.{xor_back, xor_once, add_is_xor}

same_parts : (m n : Message) → m.round ≡ n.round → m.from ≡ n.from → m.to ≡ n.to → m ≡ n
same_parts m n round from to i = record { round = round i; from = from i; to = to i }

pub next_power : (i : ℕ) → 2 ^ (i + 1) ≡ 2 * 2 ^ i
next_power i = let next = pow-add 2 i 1 in omega arith

pub power_at_most : (i k : ℕ) → i ≤ k → 2 ^ i ≤ 2 ^ k
power_at_most i k le = pow_mono le

-- ---- which messages are possible

pub IsMessage-round : (shape : Shape) (k root : ℕ) (m : Message)
    → IsMessage shape k root m
    → m.round < k
IsMessage-round Broadcast k root m is = is.0
IsMessage-round Reduce k root m is = is.0
IsMessage-round AllReduce k root m is = is.0
IsMessage-round Scan k root m is = is.0

messages_before-mono : (shape : Shape) (k r s : ℕ)
    → r ≤ s
    → messages_before shape k r ≤ messages_before shape k s
messages_before-mono Broadcast k r s le = let powers = power_at_most r s le in omega arith
messages_before-mono Reduce k r s le = let powers = power_at_most (k - s) (k - r) (omega arith) in omega arith
messages_before-mono AllReduce k r s le = mul-le r (2 ^ k) s (2 ^ k) le (omega arith)
messages_before-mono Scan k r s le = mul-le r (2 ^ k) s (2 ^ k) le (omega arith)

messages_before-all : (shape : Shape) (k : ℕ) → messages_before shape k k ≡ message_count shape k
messages_before-all Broadcast k = refl
messages_before-all Reduce k = let none : k - k ≡ 0 = omega arith in ap (λ e. 2 ^ k - 2 ^ e) none
messages_before-all AllReduce k = refl
messages_before-all Scan k = refl

broadcast_number : (root : ℕ) (m : Message)
    → IsBroadcastMessage root m
    → bit_xor m.from root < 2 ^ m.round
broadcast_number root m (v, v_within, from, to) =
    let number : bit_xor m.from root ≡ v = ap (λ x. bit_xor x root) from ∙ xor_back v root in omega arith

exchange_number : (k : ℕ) (m : Message)
    → IsExchangeMessage k m
    → m.round * 2 ^ k + m.from < (m.round + 1) * 2 ^ k
exchange_number k m is = let product : (m.round + 1) * 2 ^ k ≡ m.round * 2 ^ k + 2 ^ k = grind arith in omega (arith, is.0)

message_number-below : (shape : Shape) (k root : ℕ) (m : Message)
    → IsMessage shape k root m
    → message_number shape k root m < messages_before shape k (m.round + 1)
message_number-below Broadcast k root m is =
    let number = broadcast_number root m is.1 in
    let next = next_power m.round in
    let positive = pow_pos m.round in
    omega arith
message_number-below Reduce k root m is =
    let exponent : k ≡ k - (m.round + 1) + (m.round + 1) = omega (arith, is.0) in
    let within : m.to < 2 ^ (k - (m.round + 1) + (m.round + 1)) = subst (λ e. m.to < 2 ^ e) exponent is.1.0 in
    let number = shr_below m.to (k - (m.round + 1)) (m.round + 1) within in
    let earlier : k - m.round ≡ k - (m.round + 1) + 1 = omega (arith, is.0) in
    let twice : 2 ^ (k - m.round) ≡ 2 * 2 ^ (k - (m.round + 1)) = ap (λ e. 2 ^ e) earlier ∙ next_power (k - (m.round + 1)) in
    let most = power_at_most (k - m.round) k (omega arith) in
    omega arith
message_number-below AllReduce k root m is = exchange_number k m is.1
message_number-below Scan k root m is = exchange_number k m is.1

pub message_number-within : (shape : Shape) (k root : ℕ) (m : Message)
    → IsMessage shape k root m
    → message_number shape k root m < message_count shape k
message_number-within shape k root m is =
    let below = message_number-below shape k root m is in
    let rounds = IsMessage-round shape k root m is in
    let mono = messages_before-mono shape k (m.round + 1) k (omega arith) in
    let all = messages_before-all shape k in
    omega arith

-- ---- no two messages have one number

message_number-rounds : (shape : Shape) (k root : ℕ) (m : Message)
    → messages_before shape k m.round ≤ message_number shape k root m
message_number-rounds shape k root m = omega arith

pub rounds_rise : (shape : Shape) (k root : ℕ) (m n : Message)
    → IsMessage shape k root n
    → message_number shape k root m ≤ message_number shape k root n
    → m.round ≤ n.round
rounds_rise shape k root m n n_is order = elim (cases_lt n.round m.round) [
  | inl earlier ↦
      let below = message_number-below shape k root n n_is in
      let mono = messages_before-mono shape k (n.round + 1) m.round (omega arith) in
      let above = message_number-rounds shape k root m in
      absurd (omega arith)
  | inr done ↦ done
]

same_broadcast : (root : ℕ) (m n : Message)
    → IsBroadcastMessage root m
    → IsBroadcastMessage root n
    → m.round ≡ n.round
    → bit_xor m.from root ≡ bit_xor n.from root
    → m ≡ n
same_broadcast root m n (v, v_within, m_from, m_to) (w, w_within, n_from, n_to) round number =
    let from : m.from ≡ n.from = xor_once m.from n.from root number in
    let one : v ≡ w = xor_once v w root (sym m_from ∙ from ∙ n_from) in
    same_parts m n round from (m_to ∙ ap (λ x. bit_xor (x + 2 ^ m.round) root) one ∙ ap (λ r. bit_xor (w + 2 ^ r) root) round ∙ sym n_to)

same_reduce : (k root : ℕ) (m n : Message)
    → IsReduceMessage k root m
    → IsReduceMessage k root n
    → m.round ≡ n.round
    → m.to / 2 ^ (m.round + 1) ≡ n.to / 2 ^ (n.round + 1)
    → m ≡ n
same_reduce k root m n m_is n_is round number =
    let size = 2 ^ (n.round + 1) in
    let same_size : 2 ^ (m.round + 1) ≡ size = ap (λ r. 2 ^ (r + 1)) round in
    let rest : m.to % 2 ^ (m.round + 1) ≡ n.to % size = m_is.1 ∙ ap (λ s. root % s) same_size ∙ sym n_is.1 in
    let to : m.to ≡ n.to =
    sym (shr_split m.to (m.round + 1)) ∙ ap (λ q. q * 2 ^ (m.round + 1) + m.to % 2 ^ (m.round + 1)) number
    ∙ ap (λ s. n.to / size * s + m.to % 2 ^ (m.round + 1)) same_size ∙ ap (λ r. n.to / size * size + r) rest ∙ shr_split n.to (n.round + 1) in
    same_parts m n round (m_is.2 ∙ ap (λ x. bit_xor x (2 ^ m.round)) to ∙ ap (λ r. bit_xor n.to (2 ^ r)) round ∙ sym n_is.2) to

same_exchange : (k : ℕ) (m n : Message)
    → IsExchangeMessage k m
    → IsExchangeMessage k n
    → m.round ≡ n.round
    → m.from ≡ n.from
    → m ≡ n
same_exchange k m n m_is n_is round from =
    same_parts m n round from (m_is.1 ∙ ap (λ x. bit_xor x (2 ^ m.round)) from ∙ ap (λ r. bit_xor n.from (2 ^ r)) round ∙ sym n_is.1)

same_number : (shape : Shape) (k root : ℕ) (m n : Message)
    → IsMessage shape k root m
    → IsMessage shape k root n
    → m.round ≡ n.round
    → number_in_round shape root m ≡ number_in_round shape root n
    → m ≡ n
same_number Broadcast k root m n m_is n_is round number = same_broadcast root m n m_is.1 n_is.1 round number
same_number Reduce k root m n m_is n_is round number = same_reduce k root m n m_is.1 n_is.1 round number
same_number AllReduce k root m n m_is n_is round number = same_exchange k m n m_is.1 n_is.1 round number
same_number Scan k root m n m_is n_is round number = same_exchange k m n m_is.1 n_is.1 round number

pub one_message : (shape : Shape) (k root : ℕ) (m n : Message)
    → IsMessage shape k root m
    → IsMessage shape k root n
    → message_number shape k root m ≡ message_number shape k root n
    → m ≡ n
one_message shape k root m n m_is n_is number =
    let rising = rounds_rise shape k root m n n_is (omega arith) in
    let falling = rounds_rise shape k root n m m_is (omega arith) in
    let round : m.round ≡ n.round = omega arith in
    let before : messages_before shape k m.round ≡ messages_before shape k n.round = ap (messages_before shape k) round in
    same_number shape k root m n m_is n_is round (omega arith)

-- ---- edges of the cube

power_within : (k i : ℕ) → i < k → 2 ^ i < 2 ^ k
power_within k i within = pow_below i k within

broadcast_edge : (k root : ℕ) (m : Message)
    → root < 2 ^ k
    → m.round < k
    → IsBroadcastMessage root m
    → IsAlongAnEdge k m
broadcast_edge k root m root_within round (v, v_within, from, to) =
    let next = next_power m.round in
    let most = power_at_most (m.round + 1) k (omega arith) in
    let v_below : v < 2 ^ k = omega arith in
    let sum_below : v + 2 ^ m.round < 2 ^ k = omega arith in
    let turned : bit_xor (v + 2 ^ m.round) root ≡ bit_xor (bit_xor v root) (2 ^ m.round) =
    ap (λ x. bit_xor x root) (add_is_xor v m.round v_within) ∙ xor_assoc v (2 ^ m.round) root
    ∙ ap (bit_xor v) (xor_comm (2 ^ m.round) root) ∙ sym (xor_assoc v root (2 ^ m.round)) in
    record {
      round = round;
      from = subst (λ x. x < 2 ^ k) (sym from) (xor_lt k v root v_below root_within);
      to = subst (λ x. x < 2 ^ k) (sym to) (xor_lt k (v + 2 ^ m.round) root sum_below root_within);
      edge = to ∙ turned ∙ ap (λ x. bit_xor x (2 ^ m.round)) (sym from);
    }

reduce_edge : (k root : ℕ) (m : Message)
    → m.round < k
    → IsReduceMessage k root m
    → IsAlongAnEdge k m
reduce_edge k root m round is = record {
  round = round;
  from = subst (λ x. x < 2 ^ k) (sym is.2) (xor_lt k m.to (2 ^ m.round) is.0 (power_within k m.round round));
  to = is.0;
  edge = sym (xor_back m.to (2 ^ m.round)) ∙ ap (λ x. bit_xor x (2 ^ m.round)) (sym is.2);
}

exchange_edge : (k : ℕ) (m : Message) → m.round < k → IsExchangeMessage k m → IsAlongAnEdge k m
exchange_edge k m round is = record {
  round = round;
  from = is.0;
  to = subst (λ x. x < 2 ^ k) (sym is.1) (xor_lt k m.from (2 ^ m.round) is.0 (power_within k m.round round));
  edge = is.1;
}

pub IsMessage-edge : (shape : Shape) (k root : ℕ) (m : Message)
    → root < 2 ^ k
    → IsMessage shape k root m
    → IsAlongAnEdge k m
IsMessage-edge Broadcast k root m root_within is = broadcast_edge k root m root_within is.0 is.1
IsMessage-edge Reduce k root m root_within is = reduce_edge k root m is.0 is.1
IsMessage-edge AllReduce k root m root_within is = exchange_edge k m is.0 is.1
IsMessage-edge Scan k root m root_within is = exchange_edge k m is.0 is.1

pub exponent_below : (i k : ℕ) → 2 ^ i < 2 ^ k → i < k
exponent_below i k below = elim (cases_lt i k) [
  | inl less ↦ less
  | inr above ↦ let powers = power_at_most k i above in absurd (omega arith)
]
