use Rattle.std.proofs.Common.{◌≡◌, ℕ, map, rules, sym, ap, ◌∙◌}
use Rattle.std.specs.BTreeMap.{BTreeMap, is_at, get}
use Rattle.std.specs.Map.{lookup}
use Rattle.std.specs.Option.{option_map}
use Rattle.std.proofs.lemmas.Map.Made.{map_same_pairs, lookup-map_values}
use Rattle.rules_match.specs.Found.{pair_cmp}
use Rattle.unit_scopes.specs.Within.{macro_within}
use Rattle.unit_scopes.specs.declared.macros.Macro.{Macro}
use Rattle.unit_scopes.proofs.WithinLaws.{macro_fits}
use Rattle.unit_scopes.proofs.unit_macros.UnitMacros.keep_within.Goals as goal

-- what the map has then
kept : (last : ℕ) (m n : BTreeMap (ℕ × ℕ) Macro) → n.entries ≡ map (λ e. (e.0, macro_within last e.1)) m.entries → (q : ℕ × ℕ) → get pair_cmp n q ≡ option_map (macro_within last) (get pair_cmp m q)
kept last m n is q = ap (lookup (is_at (pair_cmp q))) is ∙ lookup-map_values (macro_within last) (is_at (pair_cmp q)) m.entries

pub invariant_of-self : goal.invariant_of-self
invariant_of-self c =
    let m = c.args.self.now.all in
    let is = map_same_pairs _ (macro_within c.args.last) _ (λ k v b w f' t. search rules) _ _ c.retain.ensures.filtered in
    record { within = λ u i k there. macro_fits c.args.last (get pair_cmp m (u, i)) k (sym (kept c.args.last m c.retain.new.self is (u, i)) ∙ there) }

pub returns : goal.returns
returns c = λ u i.
    let is = map_same_pairs _ (macro_within c.args.last) _ (λ k v b w f' t. search rules) _ _ c.retain.ensures.filtered in
    kept c.args.last c.args.self.now.all c.retain.new.self is (u, i)
