-- Tables that go back to their first symbols and identifiers.
use Rattle.std.proofs.Common.{◌≡◌, ℕ, zero, suc, ◌+◌, ◌<◌, ◌≤◌, List, [], ◌∷◌, ◌++◌, map, take, drop, length, slice_get, Some, refl, sym, ap, ◌∙◌, subst, arith}
use Rattle.std.specs.Map.{values_of}
use Rattle.std.specs.Option.{option_map}
use Rattle.std.specs.String.{string_bytes}
use Rattle.std.proofs.lemmas.List.{length-take-le, take-append-drop, take_at, take-map, length-map}
use Rattle.std.proofs.lemmas.Option.{slice_get_within, same_Some}
use Rattle.indexmap.specs.IndexMap.{keys, values}
use Rattle.scheme_model.specs.Ident.{Ident as Identifier, Written, symbol_of}
use Rattle.syntax_tree.specs.Names.{Names, AreToldApart, StandBeside}
use Rattle.syntax_tree.specs.Numbered.{ident_of, IsBelow, idents_after, AreBefore, Strings, Entries, symbols_of, names_of, AreTables}
use Rattle.syntax_tree.specs.declared.symbols.Ident.{Ident}
use Rattle.syntax_tree.specs.declared.symbols.Ident.TheVariants as code
use Rattle.syntax_tree.proofs.Places.{none_some, get_within}
use Rattle.syntax_tree.proofs.TableLaws.{made, after-append, after-front, after-symbols, length-after, before-at, entry_is}

module _ {A : Type 0} where
  get_taken : (xs : List A) (n i : ℕ) → i < n → slice_get (take n xs) i ≡ slice_get xs i
  get_taken xs zero i lt = absurd (omega (arith, lt))
  get_taken [] (suc n) i lt = refl
  get_taken (x ∷ xs) (suc n) zero lt = refl
  get_taken (x ∷ xs) (suc n) (suc i) lt = get_taken xs n i (omega (arith, lt))

  apart_taken : (xs : List A) (n : ℕ) → n ≤ length xs → AreToldApart xs → AreToldApart (take n xs)
  apart_taken xs n le apart i j lt same =
      let few : length (take n xs) ≡ n = length-take-le n xs le in
      let p = get_within (take n xs) i lt in
      let there = slice_get_within (take n xs) j p.0 (sym same ∙ p.1) in
      apart i j (omega (arith, lt, few, le)) (sym (get_taken xs n i (omega (arith, lt, few))) ∙ same ∙ get_taken xs n j (omega (arith, there, few)))

-- a symbol that stands at two places of the table stands at one
one_place : (symbols : List (List ℕ)) (j k : ℕ) (s : List ℕ) → AreToldApart symbols → slice_get symbols j ≡ Some s → slice_get symbols k ≡ Some s → j ≡ k
one_place symbols j k s apart p q = apart j k (slice_get_within symbols j s p) (p ∙ sym q)

before_taken : (s t m n : ℕ) (xs : List Ident) → AreBefore t m xs → ((i : ℕ) (x : Ident) → i < n → slice_get xs i ≡ Some x → IsBelow s (m + i) x) → AreBefore s m (take n xs)
before_taken s t m zero xs h below = tt
before_taken s t m (suc n) [] h below = tt
before_taken s t m (suc n) (x ∷ xs) h below = (
  subst (λ (k : ℕ). IsBelow s k x) (omega arith) (below 0 x (omega arith) refl),
  before_taken s t (suc m) n xs h.1 (λ i y lt at. subst (λ (k : ℕ). IsBelow s k y) (omega arith) (below (suc i) y (omega (arith, lt)) at)),
)

-- of the first identifiers each has its number among the first symbols
below_taken : (symbols : List (List ℕ)) (xs : List Ident) (s n : ℕ) → AreToldApart symbols → AreBefore (length symbols) 0 xs →
    StandBeside (made symbols (idents_after symbols [] xs)) s n → (i : ℕ) (x : Ident) → i < n → slice_get xs i ≡ Some x → IsBelow s (0 + i) x
below_taken symbols xs s n apart before beside i (code.Written u j) lt at =
    let within : j < length symbols = before-at (length symbols) 0 xs i (code.Written u j) before at in
    let a = get_within symbols j within in
    let is = entry_is symbols xs i (code.Written u j) before at ∙ ap (option_map (Written u)) a.1 in
    let b = beside i (Written u a.0) lt is in
    let same = one_place symbols j b.0 a.0 apart a.1 b.2 in
    omega (arith, same, b.1)
below_taken symbols xs s n apart before beside i (code.Inserted m k) lt at = before-at (length symbols) 0 xs i (code.Inserted m k) before at

-- the first identifiers stand on the first symbols
idents_taken : (symbols : List (List ℕ)) (xs : List Ident) (s n : ℕ) → n ≤ length xs → AreBefore (length (take s symbols)) 0 (take n xs) →
    idents_after (take s symbols) [] (take n xs) ≡ take n (idents_after symbols [] xs)
idents_taken symbols xs s n le before =
    let front = idents_after symbols [] (take n xs) in
    let f = after-front symbols front (drop n xs) in
    let all : idents_after symbols [] xs ≡ front ++ f.0 = ap (idents_after symbols []) (sym (take-append-drop n xs)) ∙ after-append symbols [] (take n xs) (drop n xs) ∙ f.1 in
    let few : length front ≡ n = omega (arith, length-after symbols [] (take n xs), length-take-le n xs le) in
    sym (after-symbols (take s symbols) (drop s symbols) [] 0 (take n xs) before)
    ∙ ap (λ (l : List (List ℕ)). idents_after l [] (take n xs)) (take-append-drop s symbols)
    ∙ sym (take_at front f.0 n few) ∙ ap (take n) (sym all)

-- the tables that are left
pub record AreLeft (names : Strings) (idents : Entries) (names' : Strings) (idents' : Entries) (s n : ℕ) : Type 0 where
  pub tables : AreTables names' idents'
  pub left_symbols : symbols_of names' ≡ take s (symbols_of names)
  pub left_idents : idents_after (symbols_of names') [] (keys idents') ≡ take n (idents_after (symbols_of names) [] (keys idents))

pub tables_taken : (names names' : Strings) (idents idents' : Entries) (s n : ℕ) → AreTables names idents → names'.keys ≡ take s names.keys → idents'.entries ≡ take n idents.entries →
    s ≤ length (symbols_of names) → n ≤ length (idents_after (symbols_of names) [] (keys idents)) → StandBeside (names_of names idents) s n → AreLeft names idents names' idents' s n
tables_taken names names' idents idents' s n t by_names by_idents few_symbols few_idents beside =
    record {
      tables = record { symbols_apart = subst AreToldApart (sym on_symbols) (apart_taken symbols s few_symbols t.symbols_apart); entries_apart = subst AreToldApart (sym on_keys) (apart_taken (keys idents) n few t.entries_apart); before = before; stripped = stripped };
      left_symbols = on_symbols;
      left_idents = on_idents;
    }
  where
    symbols : List (List ℕ)
    symbols = symbols_of names

    is : List Identifier
    is = idents_after symbols [] (keys idents)

    on_symbols : symbols_of names' ≡ take s symbols
    on_symbols = ap (map string_bytes) by_names ∙ sym (take-map string_bytes s names.keys)

    on_keys : keys idents' ≡ take n (keys idents)
    on_keys = ap (map (λ e. e.0)) by_idents ∙ sym (take-map (λ e. e.0) n idents.entries)

    on_values : values idents' ≡ take n (values idents)
    on_values = ap (map (λ e. e.1)) by_idents ∙ sym (take-map (λ e. e.1) n idents.entries)

    few : n ≤ length (keys idents)
    few = omega (arith, few_idents, length-after symbols [] (keys idents))

    before_here : AreBefore (length (take s symbols)) 0 (take n (keys idents))
    before_here =
        let below = below_taken symbols (keys idents) s n t.symbols_apart t.before beside in
        before_taken (length (take s symbols)) (length symbols) 0 n (keys idents) t.before
        (λ i x lt at. subst (λ (k : ℕ). IsBelow k (0 + i) x) (sym (length-take-le s symbols few_symbols)) (below i x lt at))

    before : AreBefore (length (symbols_of names')) 0 (keys idents')
    before = subst (λ (l : List (List ℕ)). AreBefore (length l) 0 (keys idents')) (sym on_symbols) (subst (AreBefore (length (take s symbols)) 0) (sym on_keys) before_here)

    on_idents : idents_after (symbols_of names') [] (keys idents') ≡ take n is
    on_idents =
        ap (λ (l : List (List ℕ)). idents_after l [] (keys idents')) on_symbols ∙ ap (idents_after (take s symbols) []) on_keys
        ∙ idents_taken symbols (keys idents) s n few before_here

    stripped : (i k : ℕ) → slice_get (values idents') i ≡ Some k → slice_get (symbols_of names') k ≡ option_map symbol_of (slice_get (idents_after (symbols_of names') [] (keys idents')) i)
    stripped i k h =
        let there : slice_get (take n (values idents)) i ≡ Some k = ap (λ (l : List ℕ). slice_get l i) (sym on_values) ∙ h in
        let values_few : n ≤ length (values idents) = omega (arith, few, length-map idents.entries (λ e. e.0), length-map idents.entries (λ e. e.1)) in
        let lt : i < n = omega (arith, slice_get_within (take n (values idents)) i k there, length-take-le n (values idents) values_few) in
        let d = get_within is i (omega (arith, lt, few_idents)) in
        let beside_it = t.stripped i k (sym (get_taken (values idents) n i lt) ∙ there) in
        let at : slice_get symbols k ≡ Some (symbol_of d.0) = beside_it ∙ ap (option_map symbol_of) d.1 in
        let b = beside i d.0 lt d.1 in
        let same = one_place symbols k b.0 (symbol_of d.0) t.symbols_apart at b.2 in
        ap (λ (l : List (List ℕ)). slice_get l k) on_symbols ∙ get_taken symbols s k (omega (arith, same, b.1)) ∙ beside_it
        ∙ ap (option_map symbol_of) (sym (get_taken is n i lt)) ∙ ap (λ (l : List Identifier). option_map symbol_of (slice_get l i)) (sym on_idents)

-- each identifier has its symbol in the table
pub all_beside : (names : Strings) (idents : Entries) → AreTables names idents → StandBeside (names_of names idents) (length (symbols_of names)) (length (idents_after (symbols_of names) [] (keys idents)))
all_beside names idents t n d lt at =
    let within : n < length (values idents) = omega (arith, lt, length-after (symbols_of names) [] (keys idents), length-map idents.entries (λ e. e.0), length-map idents.entries (λ e. e.1)) in
    let k = get_within (values idents) n within in
    let is : slice_get (symbols_of names) k.0 ≡ Some (symbol_of d) = t.stripped n k.0 k.1 ∙ ap (option_map symbol_of) at in
    (k.0, slice_get_within (symbols_of names) k.0 (symbol_of d) is, is)
