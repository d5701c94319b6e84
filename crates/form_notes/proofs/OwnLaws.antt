-- The form's own definitions, with one more.
use Rattle.std.proofs.Common.{◌≡◌, ℕ, ◌+◌, ◌<◌, length, nat_eq, Bool, true, false, cond, Some, refl, sym, ◌∙◌, subst, arith, eq-eqb}
use Rattle.std.specs.Prelude.{◌&&◌, ◌||◌, ◌==◌}
use Rattle.std.specs.BTreeSet.{BTreeSet, contains, btree_set_len}
use Rattle.std.specs.Ordering.{nat_cmp}
use Rattle.std.proofs.lemmas.Bool.{eqb-true, and_parts}
use Rattle.std.proofs.lemmas.Bool.Decides.{nat_tests}
use Rattle.std.proofs.lemmas.Option.{slice_get_within}
use Rattle.scheme_model.specs.ExpansionFaults.{Named}
use Rattle.scheme_model.specs.Ident.{Ident as Identifier, same_ident}
use Rattle.scheme_model.specs.Order.{is_some}
use Rattle.scheme_model.specs.Substitution.{Defined, Table, defined_in}
use Rattle.syntax_tree.specs.Names.{Names, AreToldApart}
use Rattle.syntax_tree.specs.Macros.{IsIdent}
use Rattle.syntax_tree.proofs.InternLaws.{ident_told}
use Rattle.syntax_tree.proofs.RoleLaws.{same_by_number}
use Rattle.question_laws.specs.Noted.{is_defined_in}
use Rattle.form_notes.specs.Noted.{Since, defining}
use Rattle.form_notes.specs.Standing.{OwnStands}

first_of : (d : Defined) (own : Table) (u : ℕ) (i : Identifier) (b : Bool) → is_some (cond b (Some d) (defined_in own u i)) ≡ (b || is_some (defined_in own u i))
first_of d own u i true = refl
first_of d own u i false = refl

flip : (m n : ℕ) → (m == n) ≡ (n == m)
flip m n = grind (arith, nat_tests)

module _ (names : Names) (apart : AreToldApart names.idents) (old new : BTreeSet ℕ) (r : Since) (ident : ℕ) (x : Named Identifier) (keyword : Bool) (is : IsIdent names ident x.name) (none : is_defined_in r.own r.unit x.name ≡ false)
    (has : (n : ℕ) → contains nat_cmp new n ≡ (nat_eq n ident || contains nat_cmp old n)) (count : contains nat_cmp old ident ≡ false → btree_set_len new ≡ btree_set_len old + 1) where
  abbrev definition : Defined
  definition = record { unit = r.unit; form = r.form; ident = x.name; keyword = keyword; occ = x.occ }

  named_by : (i : Identifier) (b : Bool) → (b ≡ true → x.name ≡ i) → (is_defined_in r.own r.unit i ≡ true → (n : ℕ) × IsIdent names n i) → (b || is_defined_in r.own r.unit i) ≡ true → (n : ℕ) × IsIdent names n i
  named_by i true same before e = (ident, subst (IsIdent names ident) (same refl) is)
  named_by i false same before e = before e

  within_by : (n : ℕ) → (contains nat_cmp old n ≡ true → n < length names.idents) → (nat_eq n ident || contains nat_cmp old n) ≡ true → n < length names.idents
  within_by n before e = go (nat_eq n ident) refl e
    where
      go : (b : Bool) → nat_eq n ident ≡ b → (b || contains nat_cmp old n) ≡ true → n < length names.idents
      go true same h = subst (λ m. m < length names.idents) (sym (eqb-true n ident same)) (slice_get_within names.idents ident x.name is)
      go false same h = before h

  pub defines : OwnStands names old r → OwnStands names new (defining r x keyword)
  defines o = record {
    has = λ n i there.
        let same = sym (same_by_number names apart ident n x.name i is there) in
        let itself = sym (eq-eqb r.unit r.unit refl) in
        let before = o.has n i there in
        has n
        ∙ ((λ j. same j || before j)
        ∙ ((λ j. (itself j && same_ident x.name i) || is_defined_in r.own r.unit i)
        ∙ sym (first_of definition r.own r.unit i (r.unit == r.unit && same_ident x.name i))));
    others = λ u i e.
        let d = flip r.unit u ∙ e in
        first_of definition r.own u i (r.unit == u && same_ident x.name i)
        ∙ (λ j. (d j && same_ident x.name i) || o.others u i e j);
    named = λ i e. named_by i (r.unit == r.unit && same_ident x.name i) (λ h. ident_told x.name i (and_parts (r.unit == r.unit) (same_ident x.name i) h).1) (o.named i) (sym (first_of definition r.own r.unit i (r.unit == r.unit && same_ident x.name i)) ∙ e);
    within = λ n e. within_by n (o.within n) (sym (has n) ∙ e);
    count = let c = count (o.has ident x.name is ∙ none) in let b = o.count in omega (arith, c, b);
  }
