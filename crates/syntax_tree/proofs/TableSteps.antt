-- The invariant of the tables of symbols and identifiers, kept at each call.
use Rattle.std.proofs.Common.{◌≡◌, ◌⊎◌, ℕ, ◌+◌, ◌<◌, ◌≤◌, Bool, true, false, cond, List, [], ◌∷◌, ◌++◌, map, length, slice_get, Option, Some, None, is_some, refl, sym, ap, ◌∙◌, subst, inl, inr, arith, String, ltb, append-nil}
use Rattle.std.specs.Global.{Global}
use Rattle.std.specs.List.{position, position_or_len, list_any}
use Rattle.std.specs.Map.{keys_of, values_of}
use Rattle.std.specs.Option.{option_map}
use Rattle.std.specs.Str.{bytes_eq}
use Rattle.std.specs.String.{string_bytes}
use Rattle.std.proofs.lemmas.Bool.Decides.{nat_tests}
use Rattle.std.proofs.lemmas.List.{length-append, length-map, map-append}
use Rattle.std.proofs.lemmas.Option.{slice_get-map, slice_get_within, same_Some}
use Rattle.std.proofs.lemmas.Slice.Eq.{bytes_eq-Decides}
use Rattle.indexmap.specs.IndexMap.{keys, values}
use Rattle.indexmap.specs.IndexSet.{insert_key}
use Rattle.scheme_model.specs.Identifiers.{Number}
use Rattle.scheme_model.specs.Ident.{Ident as Identifier, Written, Inserted, symbol_of}
use Rattle.syntax_tree.specs.Names.{Names, AreToldApart, KeepsNames}
use Rattle.syntax_tree.specs.Numbered.{number_of, ident_of, IsBelow, IsPlaced, next_ident, idents_after, AreBefore, Strings, Entries, symbols_of, names_of, AreTables}
use Rattle.syntax_tree.specs.declared.symbols.Ident.{Ident}
use Rattle.syntax_tree.specs.declared.symbols.Ident.TheVariants as code
use Rattle.syntax_tree.specs.declared.symbols.UseNo.{UseNo}
use Rattle.syntax_tree.proofs.Places.{none_some, get_front, get_same, get_next, get_within, push_cases, found}
use Rattle.syntax_tree.proofs.TableLaws.{made, after-append, length-after, next-is, after-symbols, below-more, before-more, before-push, before-at, entry_is}

pub no_some : {A : Type 0} (o : Option A) → false ≡ is_some o → o ≡ None
no_some None h = refl
no_some (Some x) h = absurd cc

-- ---- symbols

abbrev pub same_text : String Global → String Global → Bool
same_text a b = bytes_eq (string_bytes a) (string_bytes b)

same_bytes : (p q : List ℕ) → bytes_eq p q ≡ true → p ≡ q
same_bytes p q h = (bytes_eq-Decides p q).0 h

pub symbol_at : (keys : List (String Global)) (k : String Global) (i : ℕ) (p : List ℕ) → slice_get keys i ≡ Some k → bytes_eq p (string_bytes k) ≡ true →
    slice_get (map string_bytes keys) i ≡ Some p
symbol_at keys k i p e h = slice_get-map string_bytes keys i ∙ ap (option_map string_bytes) e ∙ ap Some (sym (same_bytes p (string_bytes k) h))

pub symbol_found : (keys : List (String Global)) (i : ℕ) (p : List ℕ) → Some i ≡ position (λ k. bytes_eq p (string_bytes k)) keys →
    slice_get (map string_bytes keys) i ≡ Some p
symbol_found keys i p e =
    let f = found (λ (k : String Global). bytes_eq p (string_bytes k)) keys i e in
    symbol_at keys f.0 i p f.1 f.2

pub symbol_pushed : (keys new : List (String Global)) (owned : String Global) (p : List ℕ) → string_bytes owned ≡ p → new ≡ insert_key same_text keys owned →
    false ≡ list_any (λ k. bytes_eq p (string_bytes k)) keys → map string_bytes new ≡ map string_bytes keys ++ p ∷ []
symbol_pushed keys new owned p e h absent =
    let absent' : list_any (λ k. bytes_eq (string_bytes owned) (string_bytes k)) keys ≡ false = ap (λ (q : List ℕ). list_any (λ k. bytes_eq q (string_bytes k)) keys) e ∙ sym absent in
    ap (map string_bytes) (h ∙ ap (λ (b : Bool). cond b keys (keys ++ owned ∷ [])) absent')
    ∙ map-append string_bytes keys (owned ∷ []) ∙ ap (λ (q : List ℕ). map string_bytes keys ++ q ∷ []) e

pub idents_stay : (names names' : Strings) (idents : Entries) (s : List ℕ) → AreTables names idents → symbols_of names' ≡ symbols_of names ++ s ∷ [] →
    idents_after (symbols_of names') [] (keys idents) ≡ idents_after (symbols_of names) [] (keys idents)
idents_stay names names' idents s t e =
    ap (λ (l : List (List ℕ)). idents_after l [] (keys idents)) e ∙ after-symbols (symbols_of names) (s ∷ []) [] 0 (keys idents) t.before

stripped-more : (symbols more : List (List ℕ)) (k : ℕ) (o : Option (List ℕ)) → slice_get symbols k ≡ o → is_some o ≡ true → slice_get (symbols ++ more) k ≡ o
stripped-more symbols more k None h e = absurd cc
stripped-more symbols more k (Some s) h e = get_front symbols more k s h

-- an identifier stands beside each symbol that is kept
beside : (names : Strings) (idents : Entries) (i k : ℕ) → slice_get (values idents) i ≡ Some k →
    is_some (option_map symbol_of (slice_get (idents_after (symbols_of names) [] (keys idents)) i)) ≡ true
beside names idents i k h =
    let is = idents_after (symbols_of names) [] (keys idents) in
    let lt : i < length is = omega (arith, slice_get_within (values idents) i k h, length-map idents.entries (λ e. e.0), length-map idents.entries (λ e. e.1), length-after (symbols_of names) [] (keys idents)) in
    let p = get_within is i lt in
    ap (λ (o : Option Identifier). is_some (option_map symbol_of o)) p.1

pub symbol_tables : (names names' : Strings) (idents : Entries) (s : List ℕ) → AreTables names idents → symbols_of names' ≡ symbols_of names ++ s ∷ [] →
    AreToldApart (symbols_of names') → AreTables names' idents
symbol_tables names names' idents s t e apart = record {
  symbols_apart = apart;
  entries_apart = t.entries_apart;
  before = before-more (length (symbols_of names)) (length (symbols_of names')) 0 (keys idents) (omega (arith, ap length e, length-append (symbols_of names) (s ∷ []))) t.before;
  stripped = λ i k h.
      ap (λ (l : List (List ℕ)). slice_get l k) e
      ∙ stripped-more (symbols_of names) (s ∷ []) k (option_map symbol_of (slice_get (idents_after (symbols_of names) [] (keys idents)) i)) (t.stripped i k h) (beside names idents i k h)
      ∙ ap (λ (l : List Identifier). option_map symbol_of (slice_get l i)) (sym (idents_stay names names' idents s t e));
}

-- ---- identifiers

pub ident_found : (e : Ident → Ident → Bool) → ((x y : Ident) → e x y ≡ true → x ≡ y) → (names : Strings) (idents : Entries) (now : Names) (i : ℕ) (x : Ident) →
    AreTables names idents → names_of names idents ≡ now → Some i ≡ position (e x) (keys idents) → slice_get now.idents i ≡ ident_of now x
ident_found e same names idents now i x t view h =
    let f = found (e x) (keys idents) i h in
    let at : slice_get (keys idents) i ≡ Some x = f.1 ∙ ap Some (sym (same x f.0 f.2)) in
    subst (λ (n : Names). slice_get n.idents i ≡ ident_of n x) view (entry_is (symbols_of names) (keys idents) i x t.before at)

pub keys_pushed : (es : List (Ident × ℕ)) (x : Ident) (k : ℕ) → keys_of (es ++ (x, k) ∷ []) ≡ keys_of es ++ x ∷ []
keys_pushed es x k = map-append (λ e. e.0) es ((x, k) ∷ [])

values_pushed : (es : List (Ident × ℕ)) (x : Ident) (k : ℕ) → values_of (es ++ (x, k) ∷ []) ≡ values_of es ++ k ∷ []
values_pushed es x k = map-append (λ e. e.1) es ((x, k) ∷ [])

pub idents_pushed : (symbols : List (List ℕ)) (xs new : List Ident) (x : Ident) → new ≡ xs ++ x ∷ [] →
    idents_after symbols [] new ≡ idents_after symbols [] xs ++ next_ident symbols (idents_after symbols [] xs) x ∷ []
idents_pushed symbols xs new x e = ap (idents_after symbols []) e ∙ after-append symbols [] xs (x ∷ [])

below_here : (symbols : List (List ℕ)) (xs : List Ident) (x : Ident) → IsBelow (length symbols) (length (idents_after symbols [] xs)) x → IsBelow (length symbols) (0 + length xs) x
below_here symbols xs x h = subst (λ (n : ℕ). IsBelow (length symbols) n x) (length-after symbols [] xs) h

pub ident_tables : (names : Strings) (idents idents' : Entries) (x : Ident) (k : ℕ) → AreTables names idents → IsPlaced (names_of names idents) x →
    slice_get (symbols_of names) k ≡ option_map symbol_of (ident_of (names_of names idents) x) →
    idents'.entries ≡ idents.entries ++ (x, k) ∷ [] → AreToldApart (keys idents') → AreTables names idents'
ident_tables names idents idents' x k t placed symbol e apart =
    let symbols = symbols_of names in
    let is = idents_after symbols [] (keys idents) in
    let ks : keys idents' ≡ keys idents ++ x ∷ [] = ap keys_of e ∙ keys_pushed idents.entries x k in
    let vs : values idents' ≡ values idents ++ k ∷ [] = ap values_of e ∙ values_pushed idents.entries x k in
    let all : idents_after symbols [] (keys idents') ≡ is ++ next_ident symbols is x ∷ [] = idents_pushed symbols (keys idents) (keys idents') x ks in
    let same_length : length (values idents) ≡ length is = omega (arith, length-map idents.entries (λ e. e.0), length-map idents.entries (λ e. e.1), length-after symbols [] (keys idents)) in
    record {
      symbols_apart = t.symbols_apart;
      entries_apart = apart;
      before = subst (AreBefore (length symbols) 0) (sym ks) (before-push (length symbols) 0 (keys idents) x t.before (below_here symbols (keys idents) x placed));
      stripped = λ i n h.
          let P : Type 0 = slice_get symbols n ≡ option_map symbol_of (slice_get (idents_after symbols [] (keys idents')) i) in
          let cases = push_cases (values idents) k i n (ap (λ (l : List ℕ). slice_get l i) (sym vs) ∙ h) in
          elim cases as (λ _. P) [
            | inl old ↦
                t.stripped i n old
                ∙ ap (option_map symbol_of) (sym (get_same is (next_ident symbols is x ∷ []) i (omega (arith, same_length, slice_get_within (values idents) i n old))))
                ∙ ap (λ (l : List Identifier). option_map symbol_of (slice_get l i)) (sym all)
            | inr new ↦
                let here : slice_get (is ++ next_ident symbols is x ∷ []) (length is) ≡ Some (next_ident symbols is x) = get_next is [] (next_ident symbols is x) in
                let place : i ≡ length is = new.0 ∙ same_length in
                ap (slice_get symbols) new.1 ∙ symbol ∙ ap (option_map symbol_of) (next-is symbols is x placed ∙ sym here)
                ∙ ap (λ (m : ℕ). option_map symbol_of (slice_get (is ++ next_ident symbols is x ∷ []) m)) (sym place)
                ∙ ap (λ (l : List Identifier). option_map symbol_of (slice_get l i)) (sym all)
          ];
    }

no_position : (len at : ℕ) → None ≡ cond (ltb at len) (Some at) None → len ≤ at
no_position len at h = grind (arith, nat_tests)

-- where a new entry stands
pub new_place : {K : Type 0} (test : K → Bool) (xs new : List K) (x : K) (i : ℕ) → None ≡ position test xs → i ≡ position_or_len test xs → new ≡ xs ++ x ∷ [] → i < length new → i ≡ length xs
new_place test xs new x i none at e within =
    omega (arith, no_position (length xs) (position_or_len test xs) none, ap length e, length-append xs (x ∷ []))

pub ident_added : (names : Strings) (idents : Entries) (new : List Ident) (now : Names) (i : ℕ) (x : Ident) → names_of names idents ≡ now → IsPlaced now x →
    new ≡ keys idents ++ x ∷ [] → i ≡ length (keys idents) → slice_get (idents_after (symbols_of names) [] new) i ≡ ident_of now x
ident_added names idents new now i x view placed e at =
    let symbols = symbols_of names in
    let is = idents_after symbols [] (keys idents) in
    let P : Names → Type 0 = λ n. IsPlaced n x → slice_get (idents_after symbols [] new) i ≡ ident_of n x in
    let place : i ≡ length is = omega (arith, at, length-after symbols [] (keys idents)) in
    subst P view (λ (h : IsPlaced (names_of names idents) x).
    ap (λ (l : List Identifier). slice_get l i) (idents_pushed symbols (keys idents) new x e)
    ∙ ap (slice_get (is ++ next_ident symbols is x ∷ [])) place ∙ get_next is [] (next_ident symbols is x) ∙ sym (next-is symbols is x h)) placed

-- a list stays, or has one thing more at its end
abbrev pub GainsAtMost : {A : Type 0} → List A → List A → A → Type 0
GainsAtMost old new x = (new ≡ old) ⊎ (new ≡ old ++ x ∷ [])

pub ident_grows : (names : Strings) (idents : Entries) (new : List Ident) (now : Names) (x : Ident) → names_of names idents ≡ now → IsPlaced now x →
    new ≡ keys idents ++ x ∷ [] → (d : Identifier) → ident_of now x ≡ Some d → GainsAtMost now.idents (idents_after (symbols_of names) [] new) d
ident_grows names idents new now x view placed e =
    let symbols = symbols_of names in
    let is = idents_after symbols [] (keys idents) in
    let P : Names → Type 0 = λ n. IsPlaced n x → (d : Identifier) → ident_of n x ≡ Some d → GainsAtMost n.idents (idents_after symbols [] new) d in
    subst P view (λ (h : IsPlaced (names_of names idents) x) (d : Identifier) (q : ident_of (names_of names idents) x ≡ Some d).
    inr (idents_pushed symbols (keys idents) new x e
    ∙ ap (λ (j : Identifier). is ++ j ∷ []) (same_Some (next_ident symbols is x) d (sym (next-is symbols is x h) ∙ q)))) placed

-- ---- different numbers are different identifiers

entry_at : (symbols : List (List ℕ)) (xs : List Ident) (i : ℕ) (d : Identifier) → AreBefore (length symbols) 0 xs → slice_get (idents_after symbols [] xs) i ≡ Some d →
    (x : Ident) × (slice_get xs i ≡ Some x) × (ident_of (made symbols (idents_after symbols [] xs)) x ≡ Some d)
entry_at symbols xs i d before h =
    let lt : i < length xs = omega (arith, slice_get_within (idents_after symbols [] xs) i d h, length-after symbols [] xs) in
    let p = get_within xs i lt in
    (p.0, p.1, sym (entry_is symbols xs i p.0 before p.1) ∙ h)

apart_places : {A : Type 0} (xs : List A) (i j : ℕ) (x : A) → AreToldApart xs → slice_get xs i ≡ Some x → slice_get xs j ≡ Some x → i ≡ j
apart_places xs i j x h p q = h i j (slice_get_within xs i x p) (p ∙ sym q)

map_some : {A B : Type 0} (f : A → B) (o : Option A) (y : B) → option_map f o ≡ Some y → (x : A) × (o ≡ Some x) × (f x ≡ y)
map_some f None y h = none_some y h
map_some f (Some x) y h = (x, refl, same_Some (f x) y h)

written_parts : (u v : ℕ) (s t : List ℕ) → Written u s ≡ Written v t → (u ≡ v) × (s ≡ t)
written_parts u v s t h = (cc, cc)

same_use : (m n : UseNo) → number_of m ≡ number_of n → m ≡ n
same_use m n h = λ j. record { unit = (h j).unit; form = (h j).form; count = (h j).count }

-- entries that stand for one identifier are equal
same_entry : (names : Names) → AreToldApart names.symbols → (x y : Ident) (d : Identifier) →
    ((i j : ℕ) (e : Identifier) (n : Number) → d ≡ Inserted e n → slice_get names.idents i ≡ Some e → slice_get names.idents j ≡ Some e → i ≡ j) →
    ident_of names x ≡ Some d → ident_of names y ≡ Some d → x ≡ y
same_entry names apart (code.Written u k) (code.Written v l) d inner p q =
    let a = map_some (Written u) (slice_get names.symbols k) d p in
    let b = map_some (Written v) (slice_get names.symbols l) d q in
    let same = written_parts u v a.0 b.0 (a.2 ∙ sym b.2) in
    let place : k ≡ l = apart_places names.symbols k l a.0 apart a.1 (b.1 ∙ ap Some (sym same.1)) in
    λ j. code.Written (same.0 j) (place j)
same_entry names apart (code.Written u k) (code.Inserted j n) d inner p q =
    let a = map_some (Written u) (slice_get names.symbols k) d p in
    let b = map_some (λ (i : Identifier). Inserted i (number_of n)) (slice_get names.idents j) d q in
    let clash : Written u a.0 ≡ Inserted b.0 (number_of n) = a.2 ∙ sym b.2 in
    absurd cc
same_entry names apart (code.Inserted i m) (code.Written v l) d inner p q =
    let a = map_some (λ (j : Identifier). Inserted j (number_of m)) (slice_get names.idents i) d p in
    let b = map_some (Written v) (slice_get names.symbols l) d q in
    let clash : Inserted a.0 (number_of m) ≡ Written v b.0 = a.2 ∙ sym b.2 in
    absurd cc
same_entry names apart (code.Inserted i m) (code.Inserted j n) d inner p q =
    let a = map_some (λ (k : Identifier). Inserted k (number_of m)) (slice_get names.idents i) d p in
    let b = map_some (λ (k : Identifier). Inserted k (number_of n)) (slice_get names.idents j) d q in
    let both : Inserted a.0 (number_of m) ≡ Inserted b.0 (number_of n) = a.2 ∙ sym b.2 in
    let part : a.0 ≡ b.0 = cc in
    let uses : number_of m ≡ number_of n = cc in
    let place : i ≡ j = inner i j a.0 (number_of m) (sym a.2) a.1 (b.1 ∙ ap Some (sym part)) in
    λ t. code.Inserted (place t) (same_use m n uses t)

apart_at : (symbols : List (List ℕ)) (xs : List Ident) → AreToldApart symbols → AreToldApart xs → AreBefore (length symbols) 0 xs → (d : Identifier) (i j : ℕ) →
    slice_get (idents_after symbols [] xs) i ≡ Some d → slice_get (idents_after symbols [] xs) j ≡ Some d → i ≡ j
apart_at symbols xs apart entries before (Written u s) i j p q =
    let a = entry_at symbols xs i (Written u s) before p in
    let b = entry_at symbols xs j (Written u s) before q in
    let same : a.0 ≡ b.0 = same_entry (made symbols (idents_after symbols [] xs)) apart a.0 b.0 (Written u s) (λ k l e n clash. absurd cc) a.2 b.2 in
    apart_places xs i j a.0 entries a.1 (b.1 ∙ ap Some (sym same))
apart_at symbols xs apart entries before (Inserted c m) i j p q =
    let a = entry_at symbols xs i (Inserted c m) before p in
    let b = entry_at symbols xs j (Inserted c m) before q in
    let inner : (k l : ℕ) (e : Identifier) (n : Number) → Inserted c m ≡ Inserted e n → slice_get (idents_after symbols [] xs) k ≡ Some e → slice_get (idents_after symbols [] xs) l ≡ Some e → k ≡ l =
    λ k l e n is pk pl. let part : c ≡ e = cc in apart_at symbols xs apart entries before c k l (pk ∙ ap Some (sym part)) (pl ∙ ap Some (sym part)) in
    let same : a.0 ≡ b.0 = same_entry (made symbols (idents_after symbols [] xs)) apart a.0 b.0 (Inserted c m) inner a.2 b.2 in
    apart_places xs i j a.0 entries a.1 (b.1 ∙ ap Some (sym same))

pub idents_apart : (names : Strings) (idents : Entries) → AreTables names idents → AreToldApart (idents_after (symbols_of names) [] (keys idents))
idents_apart names idents t i j lt same =
    let is = idents_after (symbols_of names) [] (keys idents) in
    let p = get_within is i lt in
    apart_at (symbols_of names) (keys idents) t.symbols_apart t.entries_apart t.before p.0 i j p.1 (sym same ∙ p.1)

-- ---- reading

pub entries_length : (names : Strings) (idents : Entries) (now : Names) → names_of names idents ≡ now → length now.idents ≡ length idents.entries
entries_length names idents now view =
    omega (arith, ap (λ (n : Names). length n.idents) view, length-after (symbols_of names) [] (keys idents), length-map idents.entries (λ e. e.0))

pub ident_read : (names : Strings) (idents : Entries) (now : Names) (i : ℕ) (x : Ident) (k : ℕ) → AreTables names idents → names_of names idents ≡ now →
    slice_get idents.entries i ≡ Some (x, k) → (slice_get now.idents i ≡ ident_of now x) × IsPlaced now x
ident_read names idents now i x k t view h =
    let symbols = symbols_of names in
    let is = idents_after symbols [] (keys idents) in
    let at : slice_get (keys idents) i ≡ Some x = slice_get-map (λ e. e.0) idents.entries i ∙ ap (option_map (λ e. e.0)) h in
    let before : IsBelow (length symbols) (0 + i) x = before-at (length symbols) 0 (keys idents) i x t.before at in
    let placed : IsBelow (length symbols) (length is) x = below-more (length symbols) (length symbols) (0 + i) (length is) x (omega arith) (omega (arith, slice_get_within (keys idents) i x at, length-after symbols [] (keys idents))) before in
    subst (λ (n : Names). (slice_get n.idents i ≡ ident_of n x) × IsPlaced n x) view (entry_is symbols (keys idents) i x t.before at, placed)

-- ---- numbers are kept

pub keeps_grown : (old new : Names) (ss : List (List ℕ)) (is : List Identifier) → new.symbols ≡ old.symbols ++ ss → new.idents ≡ old.idents ++ is → KeepsNames old new
keeps_grown old new ss is p q = record {
  symbols = λ n s h. ap (λ (l : List (List ℕ)). slice_get l n) p ∙ get_front old.symbols ss n s h;
  idents = λ n i h. ap (λ (l : List Identifier). slice_get l n) q ∙ get_front old.idents is n i h;
}

pub symbol_keeps : (names names' : Strings) (idents : Entries) (now : Names) (s : List ℕ) → AreTables names idents → names_of names idents ≡ now → symbols_of names' ≡ symbols_of names ++ s ∷ [] →
    KeepsNames now (names_of names' idents)
symbol_keeps names names' idents now s t view e =
    subst (λ (n : Names). KeepsNames n (names_of names' idents)) view
    (keeps_grown (names_of names idents) (names_of names' idents) (s ∷ []) [] e (idents_stay names names' idents s t e ∙ sym (append-nil (names_of names idents).idents)))

pub ident_keeps : (names : Strings) (idents idents' : Entries) (now : Names) (x : Ident) → names_of names idents ≡ now → keys idents' ≡ keys idents ++ x ∷ [] →
    KeepsNames now (names_of names idents')
ident_keeps names idents idents' now x view e =
    let symbols = symbols_of names in
    let is = idents_after symbols [] (keys idents) in
    subst (λ (n : Names). KeepsNames n (names_of names idents')) view
    (keeps_grown (names_of names idents) (names_of names idents') [] (next_ident symbols is x ∷ []) (sym (append-nil symbols)) (idents_pushed symbols (keys idents) (keys idents') x e))

-- a place stays one
pub place_kept : (old new : Names) (n : ℕ) → KeepsNames old new → n < length old.idents → n < length new.idents
place_kept old new n keeps h =
    let p = get_within old.idents n h in
    slice_get_within new.idents n p.0 (keeps.idents n p.0 p.1)
