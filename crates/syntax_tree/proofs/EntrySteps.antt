-- What the insertion of an identifier makes of the tables, whether it is there or not.
use Rattle.std.proofs.Common.{◌≡◌, ℕ, suc, ◌+◌, ◌<◌, ◌≤◌, Bool, true, false, not, cond, List, [], ◌∷◌, ◌++◌, if◌then◌else◌, length, slice_get, Some, None, refl, sym, ap, ◌∙◌, subst, inl, inr, ltb, append-nil, arith}
use Rattle.std.specs.List.{position_or_len}
use Rattle.std.specs.Map.{keys_of, values_of}
use Rattle.std.specs.Option.{option_map}
use Rattle.std.proofs.lemmas.Bool.{cases_lt}
use Rattle.std.proofs.lemmas.Bool.Decides.{nat_tests}
use Rattle.std.proofs.lemmas.List.{length-map, length-append}
use Rattle.std.proofs.lemmas.Option.{slice_get_within, same_Some}
use Rattle.indexmap.specs.IndexMap.{keys, values, insert_entry}
use Rattle.scheme_model.specs.Ident.{Ident as Identifier, symbol_of}
use Rattle.syntax_tree.specs.Names.{Names, AreToldApart, KeepsNames}
use Rattle.syntax_tree.specs.Numbered.{ident_of, IsPlaced, idents_after, AreBefore, Strings, Entries, symbols_of, names_of, AreTables}
use Rattle.syntax_tree.specs.declared.symbols.Ident.{Ident}
use Rattle.syntax_tree.proofs.Places.{get_within, found}
use Rattle.syntax_tree.proofs.TableLaws.{entry_is, length-after}
use Rattle.syntax_tree.proofs.TableSteps.{GainsAtMost, keys_pushed, ident_tables, ident_added, ident_grows, ident_keeps, keeps_grown}

-- ---- entries

module _ {K V : Type 0} (e : K → K → Bool) (x : K) (k : V) where
  abbrev place : List (K × V) → ℕ
  place es = position_or_len (e x) (keys_of es)

  place_here : (p : K × V) (es : List (K × V)) → e x p.0 ≡ true → place (p ∷ es) ≡ 0
  place_here p es is = rw is refl

  place_behind : (p : K × V) (es : List (K × V)) → e x p.0 ≡ false → place (p ∷ es) ≡ suc (place es)
  place_behind p es is =
      let one : 1 + place es ≡ suc (place es) = omega arith in
      ap (λ (b : Bool). cond (not b) (1 + place es) 0) is ∙ one

  abbrev front : K × V → List (K × V) → Bool → List (K × V)
  front p es b = if b then (p.0, k) ∷ es else p ∷ insert_entry e es x k

  -- a key that is there has this very value: nothing changes
  there_step : (p : K × V) (es : List (K × V)) → (place es < length es → slice_get (values_of es) (place es) ≡ Some k → insert_entry e es x k ≡ es) →
      (b : Bool) → e x p.0 ≡ b → place (p ∷ es) < length (p ∷ es) → slice_get (values_of (p ∷ es)) (place (p ∷ es)) ≡ Some k → insert_entry e (p ∷ es) x k ≡ p ∷ es
  there_step p es rest true is h g =
      ap (front p es) is ∙ ap (λ (v : V). (p.0, v) ∷ es) (sym (same_Some p.1 k (ap (slice_get (values_of (p ∷ es))) (sym (place_here p es is)) ∙ g)))
  there_step p es rest false is h g =
      let at = place_behind p es is in
      ap (front p es) is ∙ ap (λ (l : List (K × V)). p ∷ l) (rest (omega (arith, at, h)) (ap (slice_get (values_of (p ∷ es))) (sym at) ∙ g))

  insert_there : (es : List (K × V)) → place es < length es → slice_get (values_of es) (place es) ≡ Some k → insert_entry e es x k ≡ es
  insert_there [] h g = absurd (omega arith)
  insert_there (p ∷ es) h g = there_step p es (insert_there es) (e x p.0) refl h g

  -- a key that isn't there comes last
  last_step : (p : K × V) (es : List (K × V)) → (length es ≤ place es → insert_entry e es x k ≡ es ++ (x, k) ∷ []) →
      (b : Bool) → e x p.0 ≡ b → length (p ∷ es) ≤ place (p ∷ es) → insert_entry e (p ∷ es) x k ≡ p ∷ (es ++ (x, k) ∷ [])
  last_step p es rest true is h = absurd (omega (arith, place_here p es is, h))
  last_step p es rest false is h =
      ap (front p es) is ∙ ap (λ (l : List (K × V)). p ∷ l) (rest (omega (arith, place_behind p es is, h)))

  insert_last : (es : List (K × V)) → length es ≤ place es → insert_entry e es x k ≡ es ++ (x, k) ∷ []
  insert_last [] h = refl
  insert_last (p ∷ es) h = last_step p es (insert_last es) (e x p.0) refl h

some_position : (len at : ℕ) → at < len → Some at ≡ cond (ltb at len) (Some at) None
some_position len at h = grind (arith, nat_tests)

-- ---- the tables

-- the tables after an identifier was inserted, whose number is now this
pub record IsInserted (names : Strings) (idents after : Entries) (now : Names) (x : Ident) (i : ℕ) : Type 0 where
  pub tables : AreTables names after
  pub at : slice_get (idents_after (symbols_of names) [] (keys after)) i ≡ ident_of now x
  pub grows : (d : Identifier) → ident_of now x ≡ Some d → GainsAtMost now.idents (idents_after (symbols_of names) [] (keys after)) d
  pub keeps : KeepsNames now (names_of names after)

module _ (e : Ident → Ident → Bool) (same : (x y : Ident) → e x y ≡ true → x ≡ y) (names : Strings) (idents after : Entries) (now : Names) (x : Ident) (k i : ℕ)
    (t : AreTables names idents) (view : names_of names idents ≡ now) (placed : IsPlaced now x)
    (symbol : slice_get now.symbols k ≡ option_map symbol_of (ident_of now x))
    (entries : after.entries ≡ insert_entry e idents.entries x k) (number : i ≡ position_or_len (e x) (keys idents)) where
  abbrev symbols : List (List ℕ)
  symbols = symbols_of names

  symbol_here : slice_get symbols k ≡ option_map symbol_of (ident_of (names_of names idents) x)
  symbol_here = subst (λ (n : Names). slice_get n.symbols k ≡ option_map symbol_of (ident_of n x)) (sym view) symbol

  -- the identifier was there
  module _ (lt : i < length (keys idents)) where
    key_here : slice_get (keys idents) i ≡ Some x
    key_here =
        let f = found (e x) (keys idents) i (ap Some number ∙ some_position (length (keys idents)) (position_or_len (e x) (keys idents)) (omega (arith, lt, number))) in
        f.1 ∙ ap Some (sym (same x f.0 f.2))

    ident_here : slice_get (idents_after symbols [] (keys idents)) i ≡ ident_of (names_of names idents) x
    ident_here = entry_is symbols (keys idents) i x t.before key_here

    value_here : slice_get (values idents) i ≡ Some k
    value_here =
        let v = get_within (values idents) i (omega (arith, lt, length-map idents.entries (λ y. y.0), length-map idents.entries (λ y. y.1))) in
        let read : slice_get symbols v.0 ≡ slice_get symbols k = t.stripped i v.0 v.1 ∙ ap (option_map symbol_of) ident_here ∙ sym symbol_here in
        let there = get_within (idents_after symbols [] (keys idents)) i (omega (arith, lt, length-after symbols [] (keys idents))) in
        let within = slice_get_within symbols v.0 (symbol_of there.0) (t.stripped i v.0 v.1 ∙ ap (option_map symbol_of) there.1) in
        v.1 ∙ ap Some (t.symbols_apart v.0 k within read)

    entries_stay : after.entries ≡ idents.entries
    entries_stay =
        entries ∙ insert_there e x k idents.entries (omega (arith, lt, number, length-map idents.entries (λ y. y.0))) (ap (slice_get (values idents)) (sym number) ∙ value_here)

    keys_stay : keys after ≡ keys idents
    keys_stay = ap keys_of entries_stay

    values_stay : values after ≡ values idents
    values_stay = ap values_of entries_stay

    was_there : IsInserted names idents after now x i
    was_there = record {
      tables = record {
        symbols_apart = t.symbols_apart;
        entries_apart = subst (λ (l : List Ident). AreToldApart l) (sym keys_stay) t.entries_apart;
        before = subst (AreBefore (length symbols) 0) (sym keys_stay) t.before;
        stripped = λ n m h.
            t.stripped n m (ap (λ (l : List ℕ). slice_get l n) (sym values_stay) ∙ h)
            ∙ ap (λ (l : List Ident). option_map symbol_of (slice_get (idents_after symbols [] l) n)) (sym keys_stay);
      };
      at = ap (λ (l : List Ident). slice_get (idents_after symbols [] l) i) keys_stay
          ∙ subst (λ (n : Names). slice_get (idents_after symbols [] (keys idents)) i ≡ ident_of n x) view ident_here;
      grows = λ d is. inl (ap (idents_after symbols []) keys_stay ∙ ap (λ (n : Names). n.idents) view);
      keeps = subst (λ (n : Names). KeepsNames n (names_of names after)) view
          (keeps_grown (names_of names idents) (names_of names after) [] [] (sym (append-nil symbols))
          (ap (idents_after symbols []) keys_stay ∙ sym (append-nil (idents_after symbols [] (keys idents)))));
    }

  -- the identifier is new
  module _ (ge : length (keys idents) ≤ i) (apart : AreToldApart (keys after)) (within : i < length (keys after)) where
    entries_pushed : after.entries ≡ idents.entries ++ (x, k) ∷ []
    entries_pushed = entries ∙ insert_last e x k idents.entries (omega (arith, ge, number, length-map idents.entries (λ y. y.0)))

    pushed : keys after ≡ keys idents ++ x ∷ []
    pushed = ap keys_of entries_pushed ∙ keys_pushed idents.entries x k

    was_new : IsInserted names idents after now x i
    was_new = record {
      tables = ident_tables names idents after x k t (subst (λ (n : Names). IsPlaced n x) (sym view) placed) symbol_here entries_pushed apart;
      at = ident_added names idents (keys after) now i x view placed pushed (omega (arith, ge, within, ap length pushed, length-append (keys idents) (x ∷ [])));
      grows = ident_grows names idents (keys after) now x view placed pushed;
      keeps = ident_keeps names idents after now x view pushed;
    }

  pub inserted : AreToldApart (keys after) → i < length (keys after) → IsInserted names idents after now x i
  inserted apart within =
      elim (cases_lt i (length (keys idents))) [
        | inl lt ↦ was_there lt
        | inr ge ↦ was_new ge apart within
      ]
