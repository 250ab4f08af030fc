-- Invariants of the loops of `no_unknown`.
use Rattle.std.proofs.Common.{◌≡◌, ◌++◌, map, string_bytes}
use Rattle.std.specs.List.Sorted.{IsStrictlySortedBy}
use Rattle.std.specs.String.{string_cmp}
use Rattle.toml.specs.View.{table_view}
use Rattle.psi_net_document.specs.Values.{member_keys, unknown_keys, unless_unknown}
use Rattle.psi_net_document.proofs.keys.no_unknown.Given as goal

abbrev pub invariant-loop-key : goal.invariant-loop-key
invariant-loop-key l =
    (goal.iterator-loop-key).can_next l.key-iterator ×
    (goal.iterator-loop-key).is_finite l.key-iterator ×
    IsStrictlySortedBy string_cmp l.key-iterator ×
    (unless_unknown l.place (unknown_keys (map (λ k. k.now) l.common ++ map (λ k. k.now) l.own) (map string_bytes l.key-iterator))
    ≡ unless_unknown l.place (unknown_keys (map (λ k. k.now) l.common ++ map (λ k. k.now) l.own) (member_keys (table_view l.table))))
