-- The definitions that the traces of a unit's forms tell are those of the unit, where the forms were gone through in order.
use Rattle.std.proofs.Common.{◌≡◌, ℕ, suc, ◌+◌, ◌<◌, ◌≤◌, ◌==◌, nat_lt, List, [], ◌∷◌, ◌++◌, map, reverse, length, Bool, true, false, cond, refl, sym, ap, ◌∙◌, subst, arith}
use Rattle.std.specs.Prelude.{filter}
use Rattle.std.proofs.lemmas.Bool.{eqb-true, eqb-false, ltb-true, ltb-false, lt-ltb, le-ltb}
use Rattle.std.proofs.lemmas.Bool.Decides.{nat_tests}
use Rattle.std.proofs.lemmas.Grind.{reverse_onto}
use Rattle.std.proofs.lemmas.List.{reverse-append, map-append}
use Rattle.scheme_model.specs.Substitution.{Defined, Table}
use Rattle.syntax_tree.specs.Names.{Names}
use Rattle.core_tree.specs.Names.{AllMatch}
use Rattle.core_tree.specs.Units.{IsDefinition, AreDefinitions, definitions_from, defined_by}
use Rattle.core_tree.specs.declared.cores.Binder as code_binder
use Rattle.core_tree.specs.declared.units.UnitForm.{UnitForm}
use Rattle.unit_scopes.specs.Others.{InOrder}
use Rattle.unit_scopes.specs.State.{numbered, numbered_in, IsNumbered}

unequal : (a b : ℕ) → a < b → (a == b) ≡ false
unequal a b lt = grind (arith, nat_tests)

-- things of forms from one on, each of no later form than the one before it
module _ {X : Type 0} (of : X → ℕ) where
  abbrev pub at : ℕ → List X → List X
  at form xs = filter (λ x. of x == form) xs

  abbrev above : ℕ → List X → List X
  above form xs = filter (λ x. nat_lt form (of x)) xs

  none_above : (form : ℕ) (xs : List X) → InOrder of form (suc form) xs → above form xs ≡ []
  none_above form [] h = refl
  none_above form (x ∷ xs) h =
      let low = h.0 in
      let high = h.1 in
      let same : of x ≡ form = omega (arith, low, high) in
      ap (λ b. cond b (x ∷ above form xs) (above form xs)) (le-ltb form (of x) (omega (arith, same))) ∙ none_above form xs (subst (λ n. InOrder of form (suc n) xs) same h.2)

  split_by : (form behind : ℕ) (x : X) (xs : List X) (q : Bool) → (of x == form) ≡ q → InOrder of form behind (x ∷ xs) → xs ≡ above form xs ++ at form xs → x ∷ xs ≡ above form (x ∷ xs) ++ at form (x ∷ xs)
  split_by form behind x xs true is h rest =
      let same = eqb-true (of x) form is in
      let none = none_above form xs (subst (λ n. InOrder of form (suc n) xs) same h.2) in
      ap (λ ys. x ∷ ys) (rest ∙ ap (λ ys. ys ++ at form xs) none)
      ∙ (ap (λ ys. ys ++ x ∷ at form xs) (sym none)
      ∙ (λ k. cond (sym (le-ltb form (of x) (omega (arith, same))) k) (x ∷ above form xs) (above form xs) ++ cond (sym is k) (x ∷ at form xs) (at form xs)))
  split_by form behind x xs false is h rest =
      let low = h.0 in
      let other : form < of x = less form (of x) low (eqb-false (of x) form is) in
      ap (λ ys. x ∷ ys) rest
      ∙ (λ k. cond (sym (lt-ltb form (of x) other) k) (x ∷ above form xs) (above form xs) ++ cond (sym is k) (x ∷ at form xs) (at form xs))
    where
      less : (a b : ℕ) → a ≤ b → (b ≡ a → ⊥) → a < b
      less a b le not = omega (arith, le, not)

  split : (form behind : ℕ) (xs : List X) → InOrder of form behind xs → xs ≡ above form xs ++ at form xs
  split form behind [] h = refl
  split form behind (x ∷ xs) h = split_by form behind x xs (of x == form) refl h (split form (suc (of x)) xs h.2)

  within_by : (form later : ℕ) (x : X) (xs : List X) (q : Bool) → nat_lt form (of x) ≡ q → form < later → at later (above form xs) ≡ at later xs → at later (cond q (x ∷ above form xs) (above form xs)) ≡ cond (of x == later) (x ∷ at later xs) (at later xs)
  within_by form later x xs true is lt rest = ap (λ ys. cond (of x == later) (x ∷ ys) ys) rest
  within_by form later x xs false is lt rest =
      let le = ltb-false form (of x) is in
      rest ∙ ap (λ b. cond b (x ∷ at later xs) (at later xs)) (sym (unequal (of x) later (omega (arith, le, lt))))

  within : (form later : ℕ) (xs : List X) → form < later → at later (above form xs) ≡ at later xs
  within form later [] lt = refl
  within form later (x ∷ xs) lt = within_by form later x xs (nat_lt form (of x)) refl lt (within form later xs lt)

  above_by : (form behind : ℕ) (x : X) (xs : List X) (q : Bool) → nat_lt form (of x) ≡ q → InOrder of form behind (x ∷ xs) → InOrder of (suc form) (suc (of x)) (above form xs) → InOrder of (suc form) behind (cond q (x ∷ above form xs) (above form xs))
  above_by form behind x xs true is h rest = (ltb-true form (of x) is, h.1, rest)
  above_by form behind x xs false is h rest =
      let low = h.0 in
      let high = ltb-false form (of x) is in
      let same : of x ≡ form = omega (arith, low, high) in
      subst (InOrder of (suc form) behind) (sym (none_above form xs (subst (λ n. InOrder of form (suc n) xs) same h.2))) tt

  in_order_above : (form behind : ℕ) (xs : List X) → InOrder of form behind xs → InOrder of (suc form) behind (above form xs)
  in_order_above form behind [] h = tt
  in_order_above form behind (x ∷ xs) h = above_by form behind x xs (nat_lt form (of x)) refl h (in_order_above form (suc (of x)) xs h.2)

  none_at : (form first behind : ℕ) (xs : List X) → behind ≤ form → InOrder of first behind xs → at form xs ≡ []
  none_at form first behind [] le h = refl
  none_at form first behind (x ∷ xs) le h =
      let below : of x < behind = h.1 in
      ap (λ b. cond b (x ∷ at form xs) (at form xs)) (unequal (of x) form (omega (arith, below, le))) ∙ none_at form first (suc (of x)) xs (omega (arith, below, le)) h.2

abbrev pub of_pair : ℕ × Defined → ℕ
of_pair d = d.1.form

order_numbered : (first behind : ℕ) (ds : List Defined) → InOrder (λ (d : Defined). d.form) first behind ds → InOrder of_pair first behind (numbered ds)
order_numbered first behind [] h = tt
order_numbered first behind (d ∷ ds) h = (h.0, h.1, order_numbered first (suc d.form) ds h.2)

-- a form behind all that define anything has no definition yet
pub none_yet : (unit form first : ℕ) (table : Table) → InOrder (λ (d : Defined). d.form) first form (defined_by unit table) → numbered_in unit form table ≡ []
none_yet unit form first table order = none_at of_pair form first form (numbered (defined_by unit table)) (omega arith) (order_numbered first form (defined_by unit table) order)

all_append : {X Y : Type 0} (P : X → Y → Type 0) (xs : List X) (ys : List Y) (vs : List X) (ws : List Y) → AllMatch P xs ys → AllMatch P vs ws → AllMatch P (xs ++ vs) (ys ++ ws)
all_append P [] [] vs ws h more = more
all_append P [] (y ∷ ys) vs ws h more = absurd h
all_append P (x ∷ xs) [] vs ws h more = absurd h
all_append P (x ∷ xs) (y ∷ ys) vs ws h more = (h.0, all_append P xs ys vs ws h.1 more)

reverse_map : {X Y : Type 0} (f : X → Y) (xs : List X) → reverse (map f xs) ≡ map f (reverse xs)
reverse_map f [] = refl
reverse_map f (x ∷ xs) =
    reverse_onto (map f xs) (f x) []
    ∙ (ap (λ ys. ys ++ f x ∷ []) (reverse_map f xs)
    ∙ (sym (map-append f (reverse xs) (x ∷ [])) ∙ ap (map f) (sym (reverse_onto xs x []))))

module _ (names : Names) where
  abbrev Numbers : ℕ × code_binder.Binder → ℕ × Defined → Type 0
  Numbers b d = IsDefinition names d.0 b d.1

  -- each form's trace tells its definitions among these, from a form on
  abbrev pub Tell : (form : ℕ) → List UnitForm → List (ℕ × Defined) → Type 0
  Tell form [] ds = Unit {0}
  Tell form (c ∷ cs) ds = AllMatch (IsNumbered names form) (reverse c.trace.definitions) (at of_pair form ds) × Tell (suc form) cs ds

  tell_above : (form from : ℕ) (cs : List UnitForm) (ds : List (ℕ × Defined)) → form < from → Tell from cs ds → Tell from cs (above of_pair form ds)
  tell_above form from [] ds lt h = tt
  tell_above form from (c ∷ cs) ds lt h =
      (subst (λ es. AllMatch (IsNumbered names from) (reverse c.trace.definitions) es) (sym (within of_pair form from ds lt)) h.0, tell_above form (suc from) cs ds (omega (arith, lt)) h.1)

  with_form : (form : ℕ) (bs : List code_binder.Binder) (ds : List (ℕ × Defined)) → AllMatch (IsNumbered names form) bs ds → AllMatch Numbers (map (λ b. (form, b)) bs) ds
  with_form form [] [] h = h
  with_form form [] (d ∷ ds) h = h
  with_form form (b ∷ bs) [] h = h
  with_form form (b ∷ bs) (d ∷ ds) h = (h.0, with_form form bs ds h.1)

  gathered : (form : ℕ) (cs : List UnitForm) (ds : List (ℕ × Defined)) → InOrder of_pair form (form + length cs) ds → Tell form cs ds → AllMatch Numbers (reverse (definitions_from form cs)) ds
  gathered form [] [] order tell = tt
  gathered form [] (d ∷ ds) order tell =
      let low = order.0 in
      let high = order.1 in
      absurd (omega (arith, low, high))
  gathered form (c ∷ cs) ds order tell =
      let own : List (ℕ × code_binder.Binder) = map (λ b. (form, b)) c.trace.definitions in
      let more : List (ℕ × code_binder.Binder) = definitions_from (suc form) cs in
      let end : form + length (c ∷ cs) ≡ suc form + length cs = omega arith in
      let rest = gathered (suc form) cs (above of_pair form ds) (subst (λ n. InOrder of_pair (suc form) n (above of_pair form ds)) end (in_order_above of_pair form (form + length (c ∷ cs)) ds order)) (tell_above form (suc form) cs ds (omega arith) tell.1) in
      let here = with_form form (reverse c.trace.definitions) (at of_pair form ds) tell.0 in
      subst (λ bs. AllMatch Numbers bs ds) (sym (reverse-append own more ∙ ap (λ bs. reverse more ++ bs) (reverse_map (λ b. (form, b)) c.trace.definitions)))
      (subst (AllMatch Numbers (reverse more ++ map (λ b. (form, b)) (reverse c.trace.definitions))) (sym (split of_pair form (form + length (c ∷ cs)) ds order))
      (all_append Numbers (reverse more) (above of_pair form ds) (map (λ b. (form, b)) (reverse c.trace.definitions)) (at of_pair form ds) rest here))

  are_so : (bs : List (ℕ × code_binder.Binder)) (ds : List Defined) → AllMatch Numbers bs (numbered ds) → AreDefinitions names bs ds
  are_so [] [] h = h
  are_so [] (d ∷ ds) h = h
  are_so (b ∷ bs) [] h = h
  are_so (b ∷ bs) (d ∷ ds) h = (h.0, are_so bs ds h.1)

  -- where the forms were gone through in order, the definitions of all are those of the unit
  pub forms_define : (unit : ℕ) (cs : List UnitForm) (table : Table) → InOrder (λ (d : Defined). d.form) 0 (length cs) (defined_by unit table) → Tell 0 cs (numbered (defined_by unit table)) → AreDefinitions names (reverse (definitions_from 0 cs)) (defined_by unit table)
  forms_define unit cs table order tell =
      let end : length cs ≡ 0 + length cs = omega arith in
      let ds = defined_by unit table in
      are_so (reverse (definitions_from 0 cs)) ds (gathered 0 cs (numbered ds) (subst (λ n. InOrder of_pair 0 n (numbered ds)) end (order_numbered 0 (length cs) ds order)) tell)
