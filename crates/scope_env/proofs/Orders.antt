-- The order of the numbers of macro uses, and finite maps by numbers.
use Rattle.std.proofs.Common.{◌≡◌, ℕ, List, [], ◌∷◌, map, cond, Some, None, refl, sym, ap, ◌∙◌}
use Rattle.std.specs.declared.cmp.Ordering.{Ordering}
use Rattle.std.specs.declared.cmp.Ordering.TheVariants.{Less, Equal, Greater}
use Rattle.std.specs.Ordering.{nat_cmp, ordering_then}
use Rattle.std.specs.Cmp.{IsTotalOrder, nat_cmp_total, on_total, then_total}
use Rattle.std.specs.BTreeMap.{BTreeMap, is_at, Updates}
use Rattle.std.specs.BTreeMap as tree
use Rattle.std.specs.FinMap.{get, insert, remove, from_entries, IsAntisymmetric, nat_cmp-IsAntisymmetric}
use Rattle.scheme_model.specs.Identifiers.{Number}
use Rattle.syntax_tree.specs.Numbered.{number_of}
use Rattle.syntax_tree.specs.declared.symbols.UseNo.{UseNo}
use Rattle.syntax_tree.specs.contracts.symbols.UseNoOrd.TheImpl.{cmp-value}
use Rattle.scope_env.specs.Environment.{number_cmp}
use Rattle.scope_env.specs.Kept.{uses_of}
use Rattle.scope_env.proofs.Maps.{get_seen, put_seen, gone_seen}

pub number_total : IsTotalOrder number_cmp
number_total =
    then_total (on_total (λ (k : Number). k.unit) nat_cmp_total) (then_total (on_total (λ (k : Number). k.form) nat_cmp_total) (on_total (λ (k : Number). k.count) nat_cmp_total))

then_first : (a b : Ordering) → ordering_then a b ≡ Equal → a ≡ Equal
then_first Less b h = cc
then_first Equal b h = refl
then_first Greater b h = cc

then_second : (a b : Ordering) → ordering_then a b ≡ Equal → b ≡ Equal
then_second Less b h = absurd cc
then_second Equal b h = h
then_second Greater b h = absurd cc

pub number_same : IsAntisymmetric number_cmp
number_same k l h =
    let rest = then_second (nat_cmp k.unit l.unit) (ordering_then (nat_cmp k.form l.form) (nat_cmp k.count l.count)) h in
    let unit = nat_cmp-IsAntisymmetric k.unit l.unit (then_first (nat_cmp k.unit l.unit) (ordering_then (nat_cmp k.form l.form) (nat_cmp k.count l.count)) h) in
    let form = nat_cmp-IsAntisymmetric k.form l.form (then_first (nat_cmp k.form l.form) (nat_cmp k.count l.count) rest) in
    let count = nat_cmp-IsAntisymmetric k.count l.count (then_second (nat_cmp k.form l.form) (nat_cmp k.count l.count) rest) in
    λ j. record { unit = unit j; form = form j; count = count j }

-- ---- maps by numbers

plain : {X : Type 0} (es : List (ℕ × X)) → map (λ (e : ℕ × X). (e.0, e.1)) es ≡ es
plain [] = refl
plain (e ∷ es) = ap (λ rest. e ∷ rest) (plain es)

pub get_plain : {X : Type 0} (m : BTreeMap ℕ X) (k : ℕ) → get (from_entries {R = nat_cmp} m.entries) k ≡ tree.get nat_cmp m k
get_plain m k =
    sym (ap (λ es. get (from_entries {R = nat_cmp} es) k) (plain m.entries))
    ∙ get_seen nat_cmp nat_cmp nat_cmp_total nat_cmp-IsAntisymmetric (λ n. n) (λ x y. refl) m k

pub put_plain : {X : Type 0} (m n : BTreeMap ℕ X) (k : ℕ) (v : X) → Updates nat_cmp m n k (Some v) → from_entries {R = nat_cmp} n.entries ≡ insert (from_entries m.entries) k v
put_plain m n k v u =
    sym (ap (λ es. from_entries {R = nat_cmp} es) (plain n.entries))
    ∙ put_seen nat_cmp nat_cmp nat_cmp_total nat_cmp-IsAntisymmetric (λ n. n) (λ x y. refl) (λ n. n) (λ b. refl) m n k v u
    ∙ ap (λ es. insert (from_entries {R = nat_cmp} es) k v) (plain m.entries)

pub gone_plain : {X : Type 0} (m n : BTreeMap ℕ X) (k : ℕ) → ((q : ℕ) → tree.get nat_cmp n q ≡ cond (is_at (nat_cmp k) q) None (tree.get nat_cmp m q)) → from_entries {R = nat_cmp} n.entries ≡ remove (from_entries m.entries) k
gone_plain m n k u =
    sym (ap (λ es. from_entries {R = nat_cmp} es) (plain n.entries))
    ∙ gone_seen nat_cmp nat_cmp nat_cmp_total nat_cmp-IsAntisymmetric (λ n. n) (λ x y. refl) (λ n. n) (λ b. refl) m n k u
    ∙ ap (λ es. remove (from_entries {R = nat_cmp} es) k) (plain m.entries)

-- ---- maps by the numbers of uses

use_no : Number → UseNo
use_no k = record { unit = k.unit; form = k.form; count = k.count }

agree : (x y : UseNo) → cmp-value.it x y ≡ number_cmp (number_of x) (number_of y)
agree x y = refl

pub get_uses : (m : BTreeMap UseNo ℕ) (k : UseNo) → get (uses_of m.entries) (number_of k) ≡ tree.get cmp-value.it m k
get_uses m k = get_seen cmp-value.it number_cmp number_total number_same number_of agree m k

pub put_uses : (m n : BTreeMap UseNo ℕ) (k : UseNo) (v : ℕ) → Updates cmp-value.it m n k (Some v) → uses_of n.entries ≡ insert (uses_of m.entries) (number_of k) v
unfolding use_no
put_uses m n k v u = put_seen cmp-value.it number_cmp number_total number_same number_of agree use_no (λ b. refl) m n k v u
