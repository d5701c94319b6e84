-- The notes that ask an identifier: one note more, and tables of identifiers that grow.
use Rattle.std.proofs.Common.{◌≡◌, ℕ, zero, suc, ◌+◌, ◌<◌, ◌≤◌, List, [], ◌∷◌, ◌++◌, append_assoc, append-nil, length, Bool, true, false, Option, Some, None, refl, sym, ap, ◌∙◌, subst, arith}
use Rattle.std.specs.Prelude.{◌||◌, nat_eq, slice_get, if◌then◌else◌}
use Rattle.std.specs.Option.{option_map}
use Rattle.std.proofs.lemmas.Bool.Decides.{nat_tests}
use Rattle.std.proofs.lemmas.Option.{same_Some, slice_get_within}
use Rattle.scheme_model.specs.Identifiers.{Number}
use Rattle.scheme_model.specs.Ident.{Ident as Identifier, Written, Inserted, same_ident}
use Rattle.syntax_tree.specs.Names.{Names, AreToldApart, KeepsNames}
use Rattle.syntax_tree.specs.Numbered.{ident_of, number_of}
use Rattle.syntax_tree.specs.Macros.{IsIdent}
use Rattle.syntax_tree.specs.declared.symbols.Ident.TheVariants as idents
use Rattle.syntax_tree.specs.declared.symbols.UseNo.{UseNo}
use Rattle.syntax_tree.proofs.Places.{get_within}
use Rattle.syntax_tree.proofs.InternLaws.{ident_told}
use Rattle.syntax_tree.proofs.RoleLaws.{same_by_number}
use Rattle.unit_scopes.specs.declared.asked.Note.{Note}
use Rattle.unit_scopes.specs.declared.asked.Asked.{Asked}
use Rattle.unit_scopes.specs.Asks.{is_inside, is_inside_any, is_inside_at, idents_of, asked_by, asked_from, numbers_in, AreLayersNamed, IsKnown, AreKnown, AreNotesKnown, AskedStands}

-- ---- what is inside an identifier

abbrev pub layers : Identifier → ℕ
layers (Written u s) = 1
layers (Inserted i k) = suc (layers i)

abbrev layers_if : Option Identifier → ℕ
layers_if None = 0
layers_if (Some i) = layers i

abbrev pub layers_at : Names → ℕ → ℕ
layers_at names n = layers_if (slice_get names.idents n)

or_cases : {P : Type 0} (a b : Bool) → (a || b) ≡ true → (a ≡ true → P) → (b ≡ true → P) → P
or_cases true b h f g = f refl
or_cases false b h f g = g h

same_layers : (x y : Identifier) → same_ident x y ≡ true → layers x ≡ layers y
same_layers x y h = ap layers (ident_told x y h)

inside_layers : (x i : Identifier) → is_inside x i ≡ true → layers x ≤ layers i
inside_layers x (Written u s) h = let e = same_layers x (Written u s) h in omega arith
inside_layers x (Inserted i k) h =
    or_cases (same_ident x (Inserted i k)) (is_inside x i) h (λ p. let e = same_layers x (Inserted i k) p in omega arith) (λ p. let e = inside_layers x i p in omega arith)

-- an identifier is not inside the one that it was inserted in place of
inside_apart : (x i : Identifier) (k : Number) → x ≡ Inserted i k → is_inside x i ≡ false
inside_apart x i k e = go (is_inside x i) refl
  where
    go : (b : Bool) → is_inside x i ≡ b → b ≡ false
    go false h = refl
    go true h =
        let l = inside_layers x i h in
        let s : layers x ≡ suc (layers i) = ap layers e in
        absurd (omega arith)

-- ---- an identifier of the table by what the code has of it

module _ (names : Names) where
  pub inserted_is : (at id : ℕ) (k : UseNo) → slice_get names.idents at ≡ ident_of names (idents.Inserted id k) → id < length names.idents → (j : Identifier) × IsIdent names id j × IsIdent names at (Inserted j (number_of k))
  inserted_is at id k h lt =
      let p = get_within names.idents id lt in
      (p.0, p.1, h ∙ ap (option_map (λ (j : Identifier). Inserted j (number_of k))) p.1)

  pub written_is : (at u s : ℕ) → slice_get names.idents at ≡ ident_of names (idents.Written u s) → s < length names.symbols → (t : List ℕ) × IsIdent names at (Written u t)
  written_is at u s h lt =
      let p = get_within names.symbols s lt in
      (p.0, h ∙ ap (option_map (Written u)) p.1)

  pub fewer_layers : (at id : ℕ) (k : UseNo) → slice_get names.idents at ≡ ident_of names (idents.Inserted id k) → id < length names.idents → layers_at names id < layers_at names at
  fewer_layers at id k h lt =
      let p = inserted_is at id k h lt in
      let a = ap layers_if p.1 in
      let b = ap layers_if p.2 in
      omega arith

  pub known_inside : (at id : ℕ) (k : UseNo) → slice_get names.idents at ≡ ident_of names (idents.Inserted id k) → id < length names.idents → IsKnown names id → IsKnown names at
  known_inside at id k h lt g =
      let p = inserted_is at id k h lt in
      let same : g.0 ≡ p.0 = same_Some g.0 p.0 (sym g.1 ∙ p.1) in
      (Inserted p.0 (number_of k), p.2, ((at, p.2), subst (AreLayersNamed names) same g.2))

  pub known_written : (at u s : ℕ) → slice_get names.idents at ≡ ident_of names (idents.Written u s) → s < length names.symbols → IsKnown names at
  known_written at u s h lt = let p = written_is at u s h lt in (Written u p.0, p.1, (at, p.1))

  -- ---- one identifier is asked, and then those inside it

  abbrev pub asked_at : ℕ → Identifier → ℕ → List ℕ
  asked_at number x at = if is_inside_at names x at then number ∷ [] else []

  module _ (apart : AreToldApart names.idents) (number : ℕ) where
    flip : (m n : ℕ) → nat_eq m n ≡ nat_eq n m
    flip m n = grind (arith, nat_tests)

    inserted_step : (b c : Bool) (old : List ℕ) → (b ≡ true → c ≡ false) → (if b then old ++ number ∷ [] else old) ++ (if c then number ∷ [] else []) ≡ old ++ (if b || c then number ∷ [] else [])
    inserted_step true true old h = let e : true ≡ false = h refl in absurd cc
    inserted_step true false old h = append-nil (old ++ number ∷ [])
    inserted_step false c old h = refl

    written_step : (b : Bool) (old : List ℕ) → (if b then old ++ number ∷ [] else old) ≡ old ++ (if b then number ∷ [] else [])
    written_step true old = refl
    written_step false old = sym (append-nil old)

    -- one that uses inserted
    pub asks_inserted : (at id : ℕ) (k : UseNo) → slice_get names.idents at ≡ ident_of names (idents.Inserted id k) → id < length names.idents → (n : ℕ) (x : Identifier) → IsIdent names n x → (old new : List ℕ) →
        new ≡ (if nat_eq n at then old ++ number ∷ [] else old) → new ++ asked_at number x id ≡ old ++ asked_at number x at
    asks_inserted at id k h lt n x is old new e =
        let p = inserted_is at id k h lt in
        let i = Inserted p.0 (number_of k) in
        let tell : nat_eq n at ≡ same_ident x i = flip n at ∙ sym (same_by_number names apart n at x i is p.2) in
        ap (λ (l : List ℕ). l ++ asked_at number x id) (e ∙ ap (λ (b : Bool). if b then old ++ number ∷ [] else old) tell)
        ∙ ap (λ (o : Option Identifier). (if same_ident x i then old ++ number ∷ [] else old) ++ (if is_inside_any x o then number ∷ [] else [])) p.1
        ∙ inserted_step (same_ident x i) (is_inside x p.0) old (λ s. inside_apart x p.0 (number_of k) (ident_told x i s))
        ∙ ap (λ (o : Option Identifier). old ++ (if is_inside_any x o then number ∷ [] else [])) (sym p.2)

    -- one that was written
    pub asks_written : (at u s : ℕ) → slice_get names.idents at ≡ ident_of names (idents.Written u s) → s < length names.symbols → (n : ℕ) (x : Identifier) → IsIdent names n x → (old new : List ℕ) →
        new ≡ (if nat_eq n at then old ++ number ∷ [] else old) → new ≡ old ++ asked_at number x at
    asks_written at u s h lt n x is old new e =
        let p = written_is at u s h lt in
        let i = Written u p.0 in
        let tell : nat_eq n at ≡ same_ident x i = flip n at ∙ sym (same_by_number names apart n at x i is p.1) in
        e ∙ ap (λ (b : Bool). if b then old ++ number ∷ [] else old) tell ∙ written_step (same_ident x i) old
        ∙ ap (λ (o : Option Identifier). old ++ (if is_inside_any x o then number ∷ [] else [])) (sym p.1)

  pub not_asked : (n at : ℕ) (old new : List ℕ) (number : ℕ) → length names.idents ≤ n → at < length names.idents → new ≡ (if nat_eq n at then old ++ number ∷ [] else old) → new ≡ old
  not_asked n at old new number le lt e =
      let no : nat_eq n at ≡ false = grind (arith, nat_tests) in
      e ∙ ap (λ (b : Bool). if b then old ++ number ∷ [] else old) no

  -- ---- one note more

  asked_end : (x : Identifier) (k : ℕ) (notes : List Note) (note : Note) → asked_from names x k (notes ++ note ∷ []) ≡ asked_from names x k notes ++ asked_by names x (k + length notes) (idents_of note)
  asked_end x k [] note = append-nil (asked_by names x k (idents_of note)) ∙ ap (λ (n : ℕ). asked_by names x n (idents_of note)) (let e : k ≡ k + 0 = omega arith in e)
  asked_end x k (m ∷ ms) note =
      ap (λ (l : List ℕ). asked_by names x k (idents_of m) ++ l) (asked_end x (suc k) ms note)
      ∙ sym (append_assoc (asked_by names x k (idents_of m)) (asked_from names x (suc k) ms) (asked_by names x (suc k + length ms) (idents_of note)))
      ∙ ap (λ (n : ℕ). (asked_by names x k (idents_of m) ++ asked_from names x (suc k) ms) ++ asked_by names x n (idents_of note)) (let e : suc k + length ms ≡ k + suc (length ms) = omega arith in e)

  -- by its first identifier, and by its others
  pub asked_more : (x : Identifier) (k n : ℕ) (ns : List ℕ) → asked_by names x k (n ∷ ns) ≡ asked_at k x n ++ asked_by names x k ns
  asked_more x k n ns = go (is_inside_at names x n)
    where
      go : (b : Bool) → (if b then k ∷ asked_by names x k ns else asked_by names x k ns) ≡ (if b then k ∷ [] else []) ++ asked_by names x k ns
      go true = refl
      go false = refl

  known_end : (notes : List Note) (note : Note) → AreNotesKnown names notes → AreKnown names (idents_of note) → AreNotesKnown names (notes ++ note ∷ [])
  known_end [] note h g = (g, tt)
  known_end (m ∷ ms) note h g = (h.0, known_end ms note h.1 g)

  pub push_stands : (old new : Asked) (note : Note) → AskedStands names old → new.notes.items ≡ old.notes.items ++ note ∷ [] →
      ((n : ℕ) (x : Identifier) → IsIdent names n x → numbers_in new n ≡ numbers_in old n ++ asked_by names x (length old.notes.items) (idents_of note)) →
      ((n : ℕ) → length names.idents ≤ n → numbers_in new n ≡ numbers_in old n) → AreKnown names (idents_of note) → AskedStands names new
  push_stands old new note h notes numbers others known = record {
    numbers = λ n x is.
        numbers n x is ∙ ap (λ (l : List ℕ). l ++ asked_by names x (length old.notes.items) (idents_of note)) (h.numbers n x is) ∙ sym (asked_end x 0 old.notes.items note ∙ ap (λ (k : ℕ). asked_from names x 0 old.notes.items ++ asked_by names x k (idents_of note)) (let e : 0 + length old.notes.items ≡ length old.notes.items = omega arith in e))
        ∙ ap (asked_from names x 0) (sym notes);
    others = λ n le. others n le ∙ h.others n le;
    known = subst (AreNotesKnown names) (sym notes) (known_end old.notes.items note h.known known);
  }

  -- a note that asks one identifier, and one that asks two
  pub push_one : (old new : Asked) (note : Note) (a number : ℕ) → AskedStands names old → idents_of note ≡ a ∷ [] → number ≡ length old.notes.items → new.notes.items ≡ old.notes.items ++ note ∷ [] →
      ((n : ℕ) (x : Identifier) → IsIdent names n x → numbers_in new n ≡ numbers_in old n ++ asked_at number x a) →
      ((n : ℕ) → length names.idents ≤ n → numbers_in new n ≡ numbers_in old n) → IsKnown names a → AskedStands names new
  push_one old new note a number h is count notes numbers others known =
      push_stands old new note h notes
      (λ n x at. numbers n x at ∙ ap (λ (l : List ℕ). numbers_in old n ++ l)
      (sym (append-nil (asked_at number x a)) ∙ sym (asked_more x number a []) ∙ ap (λ (k : ℕ). asked_by names x k (a ∷ [])) count ∙ ap (asked_by names x (length old.notes.items)) (sym is)))
      others (subst (AreKnown names) (sym is) (known, tt))

  pub push_two : (old between new : Asked) (note : Note) (a b number : ℕ) → AskedStands names old → idents_of note ≡ a ∷ b ∷ [] → number ≡ length old.notes.items → new.notes.items ≡ old.notes.items ++ note ∷ [] →
      ((n : ℕ) (x : Identifier) → IsIdent names n x → numbers_in between n ≡ numbers_in old n ++ asked_at number x a) → ((n : ℕ) (x : Identifier) → IsIdent names n x → numbers_in new n ≡ numbers_in between n ++ asked_at number x b) →
      ((n : ℕ) → length names.idents ≤ n → numbers_in new n ≡ numbers_in old n) → IsKnown names a → IsKnown names b → AskedStands names new
  push_two old between new note a b number h is count notes first second others known also =
      push_stands old new note h notes
      (λ n x at. second n x at ∙ ap (λ (l : List ℕ). l ++ asked_at number x b) (first n x at) ∙ append_assoc (numbers_in old n) (asked_at number x a) (asked_at number x b)
      ∙ ap (λ (l : List ℕ). numbers_in old n ++ l)
      (ap (λ (l : List ℕ). asked_at number x a ++ l) (sym (append-nil (asked_at number x b)) ∙ sym (asked_more x number b [])) ∙ sym (asked_more x number a (b ∷ [])) ∙ ap (λ (k : ℕ). asked_by names x k (a ∷ b ∷ [])) count ∙ ap (asked_by names x (length old.notes.items)) (sym is)))
      others (subst (AreKnown names) (sym is) (known, (also, tt)))

-- ---- tables that grow

module _ (old new : Names) (keeps : KeepsNames old new) (apart : AreToldApart new.idents) where
  layers_kept : (i : Identifier) → AreLayersNamed old i → AreLayersNamed new i
  layers_kept (Written u s) h = (h.0, keeps.idents h.0 (Written u s) h.1)
  layers_kept (Inserted i k) h = ((h.0.0, keeps.idents h.0.0 (Inserted i k) h.0.1), layers_kept i h.1)

  known_kept : (ns : List ℕ) → AreKnown old ns → AreKnown new ns
  known_kept [] h = tt
  known_kept (n ∷ ns) h = ((h.0.0, keeps.idents n h.0.0 h.0.1, layers_kept h.0.0 h.0.2), known_kept ns h.1)

  notes_kept : (notes : List Note) → AreNotesKnown old notes → AreNotesKnown new notes
  notes_kept [] h = tt
  notes_kept (note ∷ notes) h = (known_kept (idents_of note) h.0, notes_kept notes h.1)

  inside_kept : (x : Identifier) (n : ℕ) → IsKnown old n → is_inside_at new x n ≡ is_inside_at old x n
  inside_kept x n h = ap (is_inside_any x) (keeps.idents n h.0 h.1 ∙ sym h.1)

  by_kept : (x : Identifier) (k : ℕ) (ns : List ℕ) → AreKnown old ns → asked_by new x k ns ≡ asked_by old x k ns
  by_kept x k [] h = refl
  by_kept x k (n ∷ ns) h =
      ap (λ (b : Bool). if b then k ∷ asked_by new x k ns else asked_by new x k ns) (inside_kept x n h.0)
      ∙ ap (λ (l : List ℕ). if is_inside_at old x n then k ∷ l else l) (by_kept x k ns h.1)

  from_kept : (x : Identifier) (k : ℕ) (notes : List Note) → AreNotesKnown old notes → asked_from new x k notes ≡ asked_from old x k notes
  from_kept x k [] h = refl
  from_kept x k (note ∷ notes) h = (λ j. by_kept x k (idents_of note) h.0 j ++ from_kept x (suc k) notes h.1 j)

  -- a new identifier is inside no old one
  new_not_inside : (n : ℕ) (x : Identifier) → IsIdent new n x → length old.idents ≤ n → (i : Identifier) → AreLayersNamed old i → is_inside x i ≡ false
  new_not_inside n x is le (Written u s) h = differs n x is le (Written u s) h.0 h.1
    where
      differs : (n : ℕ) (x : Identifier) → IsIdent new n x → length old.idents ≤ n → (i : Identifier) (m : ℕ) → IsIdent old m i → same_ident x i ≡ false
      differs n x is le i m at =
          let lt = slice_get_within old.idents m i at in
          let no : nat_eq m n ≡ false = grind (arith, nat_tests) in
          same_by_number new apart n m x i is (keeps.idents m i at) ∙ no
  new_not_inside n x is le (Inserted i k) h =
      (λ j. differs n x is le (Inserted i k) h.0.0 h.0.1 j || new_not_inside n x is le i h.1 j)
    where
      differs : (n : ℕ) (x : Identifier) → IsIdent new n x → length old.idents ≤ n → (i : Identifier) (m : ℕ) → IsIdent old m i → same_ident x i ≡ false
      differs n x is le i m at =
          let lt = slice_get_within old.idents m i at in
          let no : nat_eq m n ≡ false = grind (arith, nat_tests) in
          same_by_number new apart n m x i is (keeps.idents m i at) ∙ no

  none_by : (n : ℕ) (x : Identifier) → IsIdent new n x → length old.idents ≤ n → (k : ℕ) (ns : List ℕ) → AreKnown old ns → asked_by new x k ns ≡ []
  none_by n x is le k [] h = refl
  none_by n x is le k (m ∷ ms) h =
      ap (λ (b : Bool). if b then k ∷ asked_by new x k ms else asked_by new x k ms) (inside_kept x m h.0 ∙ ap (is_inside_any x) h.0.1 ∙ new_not_inside n x is le h.0.0 h.0.2) ∙ none_by n x is le k ms h.1

  none_from : (n : ℕ) (x : Identifier) → IsIdent new n x → length old.idents ≤ n → (k : ℕ) (notes : List Note) → AreNotesKnown old notes → asked_from new x k notes ≡ []
  none_from n x is le k [] h = refl
  none_from n x is le k (note ∷ notes) h = (λ j. none_by n x is le k (idents_of note) h.0 j ++ none_from n x is le (suc k) notes h.1 j)

  shorter : (n : ℕ) → length new.idents ≤ n → length old.idents ≤ n
  shorter n le = go (length old.idents) refl
    where
      go : (m : ℕ) → length old.idents ≡ m → length old.idents ≤ n
      go zero e = omega arith
      go (suc m) e =
          let p = get_within old.idents m (omega arith) in
          let lt = slice_get_within new.idents m p.0 (keeps.idents m p.0 p.1) in
          omega arith

  -- what was asked stands over a table that has grown
  pub asked_grows : (a : Asked) → AskedStands old a → AskedStands new a
  asked_grows a h = record {
    numbers = λ n x is. go n x is (slice_get old.idents n) refl;
    others = λ n le. h.others n (shorter n le);
    known = notes_kept a.notes.items h.known;
  }
    where
      past : (xs : List Identifier) (n : ℕ) → slice_get xs n ≡ None → length xs ≤ n
      past [] n e = omega arith
      past (x ∷ xs) zero e = absurd cc
      past (x ∷ xs) (suc n) e = let p = past xs n e in omega arith

      go : (n : ℕ) (x : Identifier) → IsIdent new n x → (o : Option Identifier) → slice_get old.idents n ≡ o → numbers_in a n ≡ asked_from new x 0 a.notes.items
      go n x is (Some y) e =
          let same : y ≡ x = same_Some y x (sym (keeps.idents n y e) ∙ is) in
          h.numbers n x (e ∙ ap Some same) ∙ sym (from_kept x 0 a.notes.items h.known)
      go n x is None e = h.others n (past old.idents n e) ∙ sym (none_from n x is (past old.idents n e) 0 a.notes.items h.known)
