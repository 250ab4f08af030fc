-- Servers of sources, and rows of tables one after another.
use Rattle.std.proofs.Common.{◌≡◌, ℕ, zero, suc, ◌+◌, ◌<◌, ◌≤◌, List, [], ◌∷◌, ◌++◌, length, map, take, get_or, slice_index, slice_index_or, sym, ap, ◌∙◌, arith}
use Rattle.std.proofs.lemmas.List.{get_or-map, take_more, take_all, map_push}
use Rattle.psi_rate.specs.Rates.{total}
use Rattle.psi_rate.proofs.TotalsLemmas.{total-more}
use Rattle.psi_net_model.specs.declared.entries.Queue.{Queue}

pub servers_read : (queues : List Queue) (i : ℕ) (queue : Queue) → i < length queues → queue ≡ get_or queues i queue → queue.servers ≡ slice_index (map (λ q. q.servers) queues) i
servers_read queues i queue small is = ap (λ (q : Queue). q.servers) is ∙ sym (get_or-map (λ (q : Queue). q.servers) queues i queue 0 small)

pub rows_more : (tables : List (List ℕ)) (i : ℕ) (row : List ℕ) → i < length tables → row ≡ slice_index_or tables i [] → take i tables ++ row ∷ [] ≡ take (i + 1) tables
rows_more tables i row small is = ap (λ (r : List ℕ). take i tables ++ r ∷ []) is ∙ sym (take_more tables i [] small)

pub values_turn : (tables : List (List ℕ)) (i values : ℕ) (row : List ℕ) → i < length tables → row ≡ slice_index_or tables i [] → values ≡ total (map length (take i tables))
    → values + length row ≡ total (map length (take (i + 1) tables))
values_turn tables i values row small is so =
    let more : map (length {A = ℕ}) (take (i + 1) tables) ≡ map (length {A = ℕ}) (take i tables) ++ length row ∷ [] =
    ap (λ (rows : List (List ℕ)). map (length {A = ℕ}) rows) (sym (rows_more tables i row small is)) ∙ map_push (length {A = ℕ}) (take i tables) row in
    let sum = total-more (map (length {A = ℕ}) (take i tables)) (length row) in
    let both : total (map (length {A = ℕ}) (take (i + 1) tables)) ≡ total (map (length {A = ℕ}) (take i tables) ++ length row ∷ []) = ap total more in
    omega arith

-- a front is no more than the whole
pub values_past : (tables : List (List ℕ)) (i : ℕ) → total (map length (take i tables)) ≤ total (map length tables)
values_past [] zero = omega arith
values_past [] (suc i) = omega arith
values_past (row ∷ tables) zero = omega arith
values_past (row ∷ tables) (suc i) = (let rest = values_past tables i in omega arith)

pub values_whole : (tables : List (List ℕ)) (i : ℕ) → length tables ≤ i → total (map length (take i tables)) ≡ total (map length tables)
values_whole tables i past = ap (λ (rows : List (List ℕ)). total (map length rows)) (take_all i tables past)
