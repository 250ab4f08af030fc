-- The network that is made of a number is one that a file may describe.
use Rattle.std.specs.Prelude.{◌≡◌, ℕ, zero, suc, ◌+◌, ◌*◌, ◌/◌, ◌^◌, ◌<◌, ◌≤◌, ◌%◌, List, [], ◌∷◌, ◌++◌, map, length, codes, decimal, All, true, refl}
use Rattle.std.specs.List.{list_all}
use Rattle.std.proofs.Common.{ap, inl, inr, arith}
use Rattle.std.proofs.lemmas.Bool.{le-leb}
use Rattle.std.proofs.lemmas.Fmt.{decimal_injective, decimal_by_steps_wide}
use Rattle.std.proofs.lemmas.Nat.{mod_below, div-add-mod'}
use Rattle.std.proofs.lemmas.List.{length-append}
use Rattle.std.proofs.lemmas.List.Folds.{list_all-append}
use Rattle.std.proofs.lemmas.List.Elements.{All-nil, All-cons}
use Rattle.psi_state.specs.Ascending.{IsDistinct}
use Rattle.psi_state.specs.Members.{In}
use Rattle.psi_state.specs.State.{numbers_from}
use Rattle.psi_net_model.specs.Name.{is_name_byte, is_name}
use Rattle.psi_net_model.specs.Network.{NamedReward}
use Rattle.psi_net_model.specs.Valid.{IsReward}
use Rattle.psi_net_model.specs.Generated.{queue_count, nth_queue, generated_queues, total_reward, generated_network}
use Rattle.psi_net_model.specs.declared.entries.Queue.{Queue}
use Rattle.psi_net_model.proofs.KeptGeneratedLemmas.{queues_kept, caps_count, all_counted}
use Rattle.psi_report_reader.specs.Samples.{AreNames}
use Rattle.psi_report_laws.specs.Described.{GeneratedAreDescribed}

-- the name of the i-th queue
abbrev queue_name : ℕ → List ℕ
queue_name i = codes "q" ++ decimal i

-- a decimal number below 100 has bytes of a name, at most two
record IsShort (n : ℕ) (digits : List ℕ) : Type 0 where
  named : list_all is_name_byte digits ≡ true
  one : n < 10 → length digits ≡ 1
  two : n < 100 → length digits ≤ 2

digit-named : (n : ℕ) → n < 10 → is_name_byte (48 + n) ≡ true
digit-named n few = rw (le-leb 48 (48 + n) (omega arith), le-leb (48 + n) 57 (omega arith)) refl

one-digit : (n : ℕ) → n < 10 → IsShort n ((48 + n) ∷ [])
one-digit n few = record { named = rw (digit-named n few) refl; one = λ less. refl; two = λ less. omega arith }

more-digits : (n : ℕ) (digits : List ℕ) → 10 ≤ n → IsShort (n / 10) digits → IsShort n (digits ++ (48 + n % 10) ∷ [])
more-digits n digits large front =
    let whole : n / 10 * 10 + n % 10 ≡ n = div-add-mod' n 10 in
    let last : n % 10 < 10 = omega arith in
    record {
      named = rw (list_all-append is_name_byte digits ((48 + n % 10) ∷ []), front.named, digit-named (n % 10) last) refl;
      one = λ less. absurd (omega arith);
      two = λ less. (let long = length-append digits ((48 + n % 10) ∷ []) in let few = front.one (omega arith) in omega arith);
    }

number-named : (n : ℕ) → n < 100 → is_name (queue_name n) ≡ true
unfolding is_name
number-named n few =
    let short : IsShort n (decimal n) = decimal_by_steps_wide IsShort one-digit more-digits n (omega arith) in
    let two = short.two few in
    rw (le-leb 1 (suc (length (decimal n))) (omega arith), le-leb (suc (length (decimal n))) 32 (omega arith), short.named) refl

names-named : (first count : ℕ) → first + count ≤ 100 → All (λ name. is_name name ≡ true) (map queue_name (numbers_from first count))
names-named first zero few = All-nil (λ name. is_name name ≡ true)
names-named first (suc count) few =
    All-cons (λ name. is_name name ≡ true) (queue_name first) (map queue_name (numbers_from (suc first) count)) (number-named first (omega arith)) (names-named (suc first) count (omega arith))

-- names of different numbers differ
name-same : (i j : ℕ) → i < 2 ^ 64 → j < 2 ^ 64 → queue_name i ≡ queue_name j → i ≡ j
name-same i j first second same = decimal_injective i j first second (let digits : decimal i ≡ decimal j = cc in digits)

name-apart : (i first count : ℕ) → i < first → first + count < 2 ^ 64 → In (queue_name i) (map queue_name (numbers_from first count)) → ⊥
name-apart i first zero less few there = there
name-apart i first (suc count) less few there = elim there [
  | inl is ↦ (let same = name-same i first (omega arith) (omega arith) is in omega arith)
  | inr behind ↦ name-apart i (suc first) count (omega arith) (omega arith) behind
]

names-distinct : (first count : ℕ) → first + count < 2 ^ 64 → IsDistinct (map queue_name (numbers_from first count))
names-distinct first zero few = tt
names-distinct first (suc count) few = (name-apart first (suc first) count (omega arith) (omega arith), names-distinct (suc first) count (omega arith))

-- the queues' names are these
names-are : (n first count : ℕ) → map (λ (q : Queue). q.name) (map (nth_queue n) (numbers_from first count)) ≡ map queue_name (numbers_from first count)
names-are n first zero = refl
names-are n first (suc count) = ap (λ (names : List (List ℕ)). queue_name first ∷ names) (names-are n (suc first) count)

queues-named : (n : ℕ) → AreNames (map (λ (q : Queue). q.name) (generated_queues n))
unfolding generated_queues
queues-named n =
    let few : n % 13 < 13 = mod_below n 13 (omega arith) in
    rw (names-are n 1 (queue_count n)) (record {
      each = names-named 1 (queue_count n) (omega arith);
      differ = names-distinct 1 (queue_count n) (omega arith);
    })

total-named : (n : ℕ) → is_name (total_reward n).name ≡ true
unfolding total_reward is_name
total-named n = refl

-- the number of all customers is a reward
total-is : (n : ℕ) → IsReward (map (λ (q : Queue). q.capacity) (generated_queues n)) (total_reward n).kind
unfolding total_reward
total-is n = all_counted n (map (λ (q : Queue). q.capacity) (generated_queues n)) (caps_count n)

pub generated-described : GeneratedAreDescribed
unfolding generated_network
generated-described n =
    record {
      queues = queues_kept n;
      queue_names = queues-named n;
      few_rewards = omega arith;
      rewards = All-cons (λ (r : NamedReward). IsReward (map (λ (q : Queue). q.capacity) (generated_queues n)) r.kind) (total_reward n) [] (total-is n)
          (All-nil (λ (r : NamedReward). IsReward (map (λ (q : Queue). q.capacity) (generated_queues n)) r.kind));
      reward_names = record {
        each = All-cons (λ (name : List ℕ). is_name name ≡ true) (total_reward n).name [] (total-named n) (All-nil (λ (name : List ℕ). is_name name ≡ true));
        differ = ((λ there. there), tt);
      };
    }
