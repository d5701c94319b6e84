-- Requirements and the names of libraries as they are read: faults that are passed on, texts part by part, and requirements in a row.
use Rattle.std.proofs.Common.{◌≡◌, ◌≢◌, ℕ, ◌+◌, ◌<◌, ◌≤◌, List, [], ◌∷◌, ◌++◌, append_assoc, append-nil, length, get_or, take, Bool, true, false, cond, Option, Some, None, Result, Ok, Err, refl, sym, ap, ◌∙◌, subst, arith}
use Rattle.std.specs.Prelude.{◌&&◌, ◌||◌, codes, slice_get, String}
use Rattle.std.specs.String.{string_bytes}
use Rattle.std.specs.declared.alloc.Global.{Global}
use Rattle.std.specs.BTreeSet.{BTreeSet, contains_text}
use Rattle.std.proofs.lemmas.List.{take_more}
use Rattle.scheme_model.specs.Program.{has_name}
use Rattle.std.specs.Result.{IsErrAnd}
use Rattle.std.specs.Option.{option_map}
use Rattle.std.specs.List.{list_all}
use Rattle.std.specs.Char.{is_ascii_digit}
use Rattle.std.specs.Str.{bytes_eq, chars, encode_utf8_all, IsUtf8}
use Rattle.std.proofs.Common.{inl, inr}
use Rattle.std.proofs.lemmas.Str.{encodes-chars}
use Rattle.std.proofs.lemmas.Option.{same_Some}
use Rattle.scheme_tokens.specs.Spelling.{IsSpelling}
use Rattle.scheme_tokens.specs.Mirror.Spelled.{spelled}
use Rattle.scheme_tokens.proofs.Same.Spelling.{spelling}
use Rattle.scheme_model.specs.declared.Occ.{Occ}
use Rattle.scheme_model.specs.Trees.{Atom, Numeral, Quoted, Character, Boolean, Bytes, Tree, name, atom, list, vector, Trees, no_trees, tree, Tail, proper, dotted}
use Rattle.scheme_model.specs.Matching.{behind}
use Rattle.scheme_model.specs.ExpansionFaults.{Fault, BadForm, ◌>>◌}
use Rattle.scheme_model.specs.Requirements.{LibraryPart, Symbol, Digits, LibraryName, Known, part_of, part_in, parts_of, library_name_of, holds, all_hold, some_holds, none_holds, is_else}
use Rattle.scheme_model.specs.Ident.{Ident as Identifier, symbol_of}
use Rattle.syntax_tree.specs.Names.{Names}
use Rattle.syntax_tree.specs.Standing.{leaf_tree}
use Rattle.scheme_model.specs.Measures.{trees_depth}
use Rattle.syntax_tree.specs.Looks.{PartsStand, PartsWithin}
use Rattle.syntax_tree.specs.Works.{StandsFor}
use Rattle.syntax_tree.specs.declared.trees.Work.{Work}
use Rattle.syntax_tree.specs.declared.trees.nodes.Tree as number
use Rattle.syntax_tree.specs.declared.trees.nodes.Leaf.{Leaf}
use Rattle.syntax_tree.specs.declared.trees.nodes.Leaf.TheVariants as code
use Rattle.core_forms.specs.Forms.{each_of}
use Rattle.core_forms.proofs.Reading.{after, after_none, after_one, then_ok}
use Rattle.feature_requirements.specs.declared.requirements.ShapeFault.{ShapeFault}
use Rattle.feature_requirements.specs.declared.requirements.ShapeFault.TheVariants as fault
use Rattle.feature_requirements.specs.declared.requirements.Connective.TheVariants as word
use Rattle.scheme_tokens.specs.LibraryNames.{IsProperPart, AreProper}
use Rattle.feature_requirements.specs.Judged.{Knows, Fails, Reads, Puts, PutsAll, ReadsPart, ReadsName, map_ok, part_text, behind_spaces, library_text, name_in_list, library_holds, word_holds, by_connective, clause_judged}

-- ---- answers

-- a fault that a call hands on
pub reads_err : {X Y : Type 0} (view : X → Y) (x : Result X ShapeFault) (e : ShapeFault) (r : Result Y (Fault Identifier)) → IsErrAnd x (λ f. f ≡ e) → Fails e r → Reads view x r
reads_err view (Ok y) e r h p = absurd h
reads_err view (Err f) e r h p = subst (λ (f : ShapeFault). Fails f r) (sym h) p

pub puts_err : (old new : List ℕ) (x : Result Unit ShapeFault) (e : ShapeFault) (r : Result LibraryPart (Fault Identifier)) → IsErrAnd x (λ f. f ≡ e) → Fails e r → Puts old new x r
puts_err old new (Ok y) e r h p = absurd h
puts_err old new (Err f) e r h p = subst (λ (f : ShapeFault). Fails f r) (sym h) p

pub puts_all_err : (old new : List ℕ) (x : Result Unit ShapeFault) (e : ShapeFault) (r : Result LibraryName (Fault Identifier)) → IsErrAnd x (λ f. f ≡ e) → Fails e r → PutsAll old new x r
puts_all_err old new (Ok y) e r h p = absurd h
puts_all_err old new (Err f) e r h p = subst (λ (f : ShapeFault). Fails f r) (sym h) p

pub name_err : (x : Result (String Global) ShapeFault) (e : ShapeFault) (r : Result LibraryName (Fault Identifier)) → IsErrAnd x (λ f. f ≡ e) → Fails e r → ReadsName x r
name_err (Ok y) e r h p = absurd h
name_err (Err f) e r h p = subst (λ (f : ShapeFault). Fails f r) (sym h) p

-- a fault as that of what is made of the answer
pub fails_map : {X Y : Type 0} (e : ShapeFault) (f : X → Y) (r : Result X (Fault Identifier)) → Fails e r → Fails e (map_ok f r)
fails_map fault.BadForm f r h = ap (map_ok f) h
fails_map fault.Memory f r h = tt

-- a fault of what is read first
pub fails_then : {X Y : Type 0} (e : ShapeFault) (r : Result X (Fault Identifier)) (f : X → Result Y (Fault Identifier)) → Fails e r → Fails e (r >> f)
fails_then fault.BadForm r f h = ap (λ x. x >> f) h
fails_then fault.Memory r f h = tt

pub fails_same : {Y : Type 0} (e : ShapeFault) (r s : Result Y (Fault Identifier)) → s ≡ r → Fails e r → Fails e s
fails_same fault.BadForm r s same h = same ∙ h
fails_same fault.Memory r s same h = tt

-- the same by another way to the definition's answer
pub reads_same : {X Y : Type 0} (view : X → Y) (x : Result X ShapeFault) (r s : Result Y (Fault Identifier)) → s ≡ r → Reads view x r → Reads view x s
reads_same view (Ok y) r s same h = same ∙ h
reads_same view (Err e) r s same h = fails_same e r s same h

pub name_same : (x : Result (String Global) ShapeFault) (r s : Result LibraryName (Fault Identifier)) → s ≡ r → ReadsName x r → ReadsName x s
name_same (Ok y) r s same h = (h.0, same ∙ h.1, h.2, h.3)
name_same (Err e) r s same h = fails_same e r s same h

pub part_same : (x : Result (List ℕ) ShapeFault) (r s : Result LibraryPart (Fault Identifier)) → s ≡ r → ReadsPart x r → ReadsPart x s
part_same (Ok y) r s same h = (h.0, same ∙ h.1, h.2, h.3)
part_same (Err e) r s same h = fails_same e r s same h

pub ok_of : {X Y : Type 0} (f : X → Y) (r : Result X (Fault Identifier)) (b : Y) → map_ok f r ≡ Ok b → (a : X) × (r ≡ Ok a) × (f a ≡ b)
ok_of f (Ok a) b h = (a, refl, cc)
ok_of f (Err e) b h = absurd cc

bad_part : {X Y : Type 0} (f : X → Y) (r : Result X (Fault Identifier)) → map_ok f r ≡ Err BadForm → r ≡ Err BadForm
bad_part f (Ok a) h = absurd cc
bad_part f (Err e) h = ap Err cc

pub fails_part : {X Y : Type 0} (e : ShapeFault) (f : X → Y) (r : Result X (Fault Identifier)) → Fails e (map_ok f r) → Fails e r
fails_part fault.BadForm f r h = bad_part f r h
fails_part fault.Memory f r h = tt

-- ---- the text of a name

-- a name is written in one way
spelled_one : (s a b : List ℕ) → IsSpelling s false a → IsSpelling s false b → a ≡ b
spelled_one s a b (inl h) (inl k) = h.0 ∙ sym k.0
spelled_one s a b (inl h) (inr k) = absurd (k.1 h.1)
spelled_one s a b (inr h) (inl k) = absurd (h.1 k.1)
spelled_one s a b (inr h) (inr k) = h.0 ∙ sym k.0

pub symbol_written : (symbol text bytes : List ℕ) → bytes ≡ text → IsUtf8 bytes → IsSpelling (chars symbol) false (chars text) → bytes ≡ part_text (Symbol symbol)
symbol_written symbol text bytes same utf8 h =
    sym (encodes-chars bytes utf8) ∙ ap (λ (s : List ℕ). encode_utf8_all (chars s)) same ∙ ap encode_utf8_all (spelled_one (chars symbol) (chars text) (spelled (chars symbol) false) h (spelling (chars symbol) false))

abbrev pub text_atom : Option Occ → (List ℕ → Atom) → List ℕ → Tree Identifier
text_atom o f s = atom (f s) o

-- the leaf of a numeral
pub numeral_leaf : (names : Names) (n : ℕ) (o : Option Occ) (a : Atom) → leaf_tree names (code.Numeral n) o ≡ Some (atom a o) → (s : List ℕ) × (a ≡ Numeral s) × (slice_get names.symbols n ≡ Some s)
numeral_leaf names n o a h = step (slice_get names.symbols n) h
  where
    step : (x : Option (List ℕ)) → option_map (text_atom o Numeral) x ≡ Some (atom a o) → (s : List ℕ) × (a ≡ Numeral s) × (x ≡ Some s)
    step None g = absurd cc
    step (Some s) g = let same = same_Some (text_atom o Numeral s) (atom a o) g in (s, cc, refl)

-- other leaves are no part of a name
abbrev pub IsOther : Leaf → Type 0
IsOther (code.Name n) = Unit {0}
IsOther (code.Numeral n) = ⊥
IsOther (code.Quoted n) = Unit {0}
IsOther (code.Char n) = Unit {0}
IsOther (code.Bool n) = Unit {0}
IsOther (code.Bytes n) = Unit {0}

kept_text : (x : Option (List ℕ)) (f : List ℕ → Atom) → ((s : List ℕ) → part_in {A = Identifier} (f s) ≡ Err BadForm) → (o : Option Occ) (a : Atom) → option_map (text_atom o f) x ≡ Some (atom a o) → part_in {A = Identifier} a ≡ Err BadForm
kept_text None f bad o a h = absurd cc
kept_text (Some s) f bad o a h = let same = same_Some (text_atom o f s) (atom a o) h in let e : f s ≡ a = cc in ap (part_in {A = Identifier}) (sym e) ∙ bad s

no_identifier : (x : Option Identifier) (o : Option Occ) (a : Atom) {P : Type 0} → option_map (λ (j : Identifier). name j o) x ≡ Some (atom a o) → P
no_identifier None o a h = absurd cc
no_identifier (Some i) o a h = let same = same_Some (name i o) (atom a o) h in absurd cc

other_leaf : (names : Names) (leaf : Leaf) (o : Option Occ) (a : Atom) → IsOther leaf → leaf_tree names leaf o ≡ Some (atom a o) → part_in {A = Identifier} a ≡ Err BadForm
other_leaf names (code.Name n) o a h e = no_identifier (slice_get names.idents n) o a e
other_leaf names (code.Numeral n) o a h e = absurd h
other_leaf names (code.Quoted n) o a h e = kept_text (slice_get names.symbols n) Quoted (λ s. refl) o a e
other_leaf names (code.Char n) o a h e = let same = same_Some (atom (Character n) o) (atom a o) e in let q : Character n ≡ a = cc in ap (part_in {A = Identifier}) (sym q)
other_leaf names (code.Bool n) o a h e = let same = same_Some (atom (Boolean n) o) (atom a o) e in let q : Boolean n ≡ a = cc in ap (part_in {A = Identifier}) (sym q)
other_leaf names (code.Bytes n) o a h e = kept_text (slice_get names.symbols n) Bytes (λ s. refl) o a e

pub other_leaf_of : (names : Names) (leaf d : Leaf) (o : Option Occ) (a : Atom) → leaf ≡ d → IsOther d → leaf_tree names leaf o ≡ Some (atom a o) → map_ok part_text (part_in {A = Identifier} a) ≡ Err BadForm
other_leaf_of names leaf d o a e h g = ap (map_ok part_text) (other_leaf names leaf o a (subst IsOther (sym e) h) g)

-- ---- proper parts

-- the symbol of an identifier, by its number
pub symbol_named : (names : Names) (id k : ℕ) (i : Identifier) (s : List ℕ) → slice_get names.idents id ≡ Some i → slice_get names.symbols k ≡ option_map symbol_of (slice_get names.idents id) → slice_get names.symbols k ≡ Some s → s ≡ symbol_of i
symbol_named names id k i s there stripped named = same_Some s (symbol_of i) (sym named ∙ stripped ∙ ap (option_map symbol_of) there)

pub symbol_part : (i : Identifier) (o : Option Occ) (t : Tree Identifier) (symbol text : List ℕ) → t ≡ name i o → symbol ≡ symbol_of i → IsUtf8 symbol → text ≡ part_text (Symbol symbol) → ReadsPart (Ok text) (part_of symbol_of t)
symbol_part i o t symbol text is same utf8 h =
    (Symbol symbol, ap (part_of symbol_of) is ∙ ap (λ (s : List ℕ). Ok (Symbol s)) (sym same), h, sym (encodes-chars symbol utf8))

abbrev answer : LibraryPart → Result LibraryPart (Fault Identifier)
answer p = Ok p

answered : LibraryPart → Result LibraryPart (Fault Identifier) → LibraryPart
answered d (Ok q) = q
answered d (Err f) = d

same_answer : (p q : LibraryPart) → answer p ≡ answer q → p ≡ q
unfolding answered
same_answer p q h = ap (answered p) h

digits_proper : (s : List ℕ) (b : Bool) → list_all is_ascii_digit s ≡ b → (p : LibraryPart) → cond b (answer (Digits s)) (Err BadForm) ≡ answer p → IsProperPart p
digits_proper s true e p h = subst IsProperPart (same_answer (Digits s) p h) e
digits_proper s false e p h = absurd cc

atom_proper : (a : Atom) (p : LibraryPart) → part_in {A = Identifier} a ≡ Ok p → IsProperPart p
atom_proper (Numeral s) p h = digits_proper s (list_all is_ascii_digit s) refl p h
atom_proper (Quoted s) p h = absurd cc
atom_proper (Character c) p h = absurd cc
atom_proper (Boolean b) p h = absurd cc
atom_proper (Bytes s) p h = absurd cc

atom_reads : (a : Atom) (x : Result (List ℕ) ShapeFault) → Reads (λ t. t) x (map_ok part_text (part_in {A = Identifier} a)) → ReadsPart x (part_in {A = Identifier} a)
atom_reads a (Ok s) h = let p = ok_of part_text (part_in {A = Identifier} a) s h in (p.0, p.1, sym p.2, atom_proper a p.0 p.1)
atom_reads a (Err e) h = fails_part e part_text (part_in {A = Identifier} a) h

pub atom_part : (a : Atom) (o : Option Occ) (t : Tree Identifier) (x : Result (List ℕ) ShapeFault) → t ≡ atom a o → Reads (λ t. t) x (map_ok part_text (part_in {A = Identifier} a)) → ReadsPart x (part_of symbol_of t)
atom_part a o t x is h = part_same x (part_in {A = Identifier} a) (part_of symbol_of t) (ap (part_of symbol_of) is) (atom_reads a x h)

-- whether there is the library of a name
pub known_name : (libraries : BTreeSet (String Global)) (known : Known) (t : Tree Identifier) (ts : Trees Identifier) (s : String Global) (here : Bool) → Knows libraries known → ts ≡ tree t no_trees →
    ReadsName (Ok s) (library_name_of symbol_of t) → here ≡ contains_text libraries (string_bytes s) → library_holds known ts ≡ Ok here
known_name libraries known t ts s here knows only h there =
    ap (library_holds known) only ∙ ap (λ r. r >> λ n. Ok (known n)) h.1 ∙ ap Ok (knows h.0 h.3 ∙ ap (contains_text libraries) (sym h.2) ∙ sym there)

pub unnamed : (known : Known) (t : Tree Identifier) (ts : Trees Identifier) (e : ShapeFault) → ts ≡ tree t no_trees → Fails e (library_name_of symbol_of t) → Fails e (library_holds known ts)
unnamed known t ts e only h =
    fails_same e (library_name_of symbol_of t >> λ n. Ok (known n)) (library_holds known ts) (ap (library_holds known) only) (fails_then e (library_name_of symbol_of t) (λ n. Ok (known n)) h)

-- ---- parts behind spaces

pub parts_each : (ts : Trees Identifier) → parts_of symbol_of ts ≡ each_of (part_of symbol_of) ts
parts_each no_trees = refl
parts_each (tree t ts) = ap (λ (x : Result LibraryName (Fault Identifier)). part_of symbol_of t >> λ n. x >> λ ns. Ok (n ∷ ns)) (parts_each ts)

-- so many parts are put behind a text
pub record PutsUpTo (ts : Trees Identifier) (k : ℕ) (old new : List ℕ) : Type 0 where
  pub parts : LibraryName
  pub text : new ≡ old ++ behind_spaces parts
  pub proper : AreProper parts
  pub so_far : after parts (each_of (part_of symbol_of) (behind k ts)) ≡ each_of (part_of symbol_of) ts

behind_push : (ps : LibraryName) (p : LibraryPart) → behind_spaces (ps ++ p ∷ []) ≡ behind_spaces ps ++ (32 ∷ part_text p)
behind_push [] p = ap (λ (t : List ℕ). 32 ∷ t) (append-nil (part_text p))
behind_push (q ∷ ps) p =
    ap (λ (t : List ℕ). 32 ∷ (part_text q ++ t)) (behind_push ps p) ∙ ap (λ (t : List ℕ). 32 ∷ t) (sym (append_assoc (part_text q) (behind_spaces ps) (32 ∷ part_text p)))

proper_push : (ps : LibraryName) (p : LibraryPart) → AreProper ps → IsProperPart p → AreProper (ps ++ p ∷ [])
proper_push [] p h k = (k, tt)
proper_push (q ∷ ps) p h k = (h.0, proper_push ps p h.1 k)

pub puts_none : (ts : Trees Identifier) (old : List ℕ) → PutsUpTo ts 0 old old
puts_none ts old = record { parts = []; text = sym (append-nil old); proper = tt; so_far = after_none (each_of (part_of symbol_of) ts) }

pub puts_more : (ts : Trees Identifier) (k : ℕ) (t : Tree Identifier) (old now mid new : List ℕ) (p : LibraryPart) → behind k ts ≡ tree t (behind (k + 1) ts) → PutsUpTo ts k old now → mid ≡ now ++ 32 ∷ [] →
    part_of symbol_of t ≡ Ok p → new ≡ mid ++ part_text p → IsProperPart p → PutsUpTo ts (k + 1) old new
puts_more ts k t old now mid new p split h spaced here put is = record {
  parts = h.parts ++ p ∷ [];
  proper = proper_push h.parts p h.proper is;
  text =
      put ∙ ap (λ (t : List ℕ). t ++ part_text p) (spaced ∙ ap (λ (t : List ℕ). t ++ 32 ∷ []) h.text) ∙ append_assoc (old ++ behind_spaces h.parts) (32 ∷ []) (part_text p)
      ∙ append_assoc old (behind_spaces h.parts) (32 ∷ part_text p) ∙ ap (λ (t : List ℕ). old ++ t) (sym (behind_push h.parts p));
  so_far =
      after_one h.parts p (each_of (part_of symbol_of) (behind (k + 1) ts))
      ∙ ap (after h.parts) (sym (ap (each_of (part_of symbol_of)) split ∙ then_ok (part_of symbol_of t) (λ y. each_of (part_of symbol_of) (behind (k + 1) ts) >> λ ys. Ok (y ∷ ys)) p here))
      ∙ h.so_far;
}

fails_after : {A : Type 0} (e : ShapeFault) (xs : List A) (s : Result (List A) (Fault Identifier)) → Fails e s → Fails e (after xs s)
fails_after fault.BadForm xs s h = ap (after xs) h
fails_after fault.Memory xs s h = tt

pub puts_fail : (ts : Trees Identifier) (k : ℕ) (t : Tree Identifier) (old now : List ℕ) (e : ShapeFault) → behind k ts ≡ tree t (behind (k + 1) ts) → PutsUpTo ts k old now → Fails e (part_of symbol_of t) → Fails e (parts_of symbol_of ts)
puts_fail ts k t old now e split h here =
    let rest = each_of (part_of symbol_of) (behind k ts) in
    fails_same e (after h.parts rest) (parts_of symbol_of ts) (parts_each ts ∙ sym h.so_far)
    (fails_after e h.parts rest (fails_same e (each_of (part_of symbol_of) (tree t (behind (k + 1) ts))) rest (ap (each_of (part_of symbol_of)) split) (fails_then e (part_of symbol_of t) (λ y. each_of (part_of symbol_of) (behind (k + 1) ts) >> λ ys. Ok (y ∷ ys)) here)))

pub puts_end : (ts : Trees Identifier) (k : ℕ) (old new : List ℕ) → behind k ts ≡ no_trees → PutsUpTo ts k old new → (ps : LibraryName) × (parts_of symbol_of ts ≡ Ok ps) × (new ≡ old ++ behind_spaces ps) × AreProper ps
puts_end ts k old new h u =
    (u.parts, parts_each ts ∙ sym u.so_far ∙ ap (λ us. after u.parts (each_of (part_of symbol_of) us)) h ∙ ap Ok (append-nil u.parts), u.text, u.proper)

-- a name and its text by its first part and the others
pub row_name : (t : Tree Identifier) (ts : Trees Identifier) (p : LibraryPart) (ps : LibraryName) (a b c : List ℕ) (d : String Global) → part_of symbol_of t ≡ Ok p → parts_of symbol_of ts ≡ Ok ps →
    a ≡ 40 ∷ [] → b ≡ a ++ part_text p → c ≡ b ++ behind_spaces ps → string_bytes d ≡ c ++ 41 ∷ [] → IsProperPart p → AreProper ps → ReadsName (Ok d) (parts_of symbol_of (tree t ts))
row_name t ts p ps a b c d first others e f g h is are = (
  p ∷ ps,
  ap (λ r. r >> λ q. parts_of symbol_of ts >> λ qs. Ok (q ∷ qs)) first ∙ ap (λ r. r >> λ qs. Ok (p ∷ qs)) others,
  h ∙ ap (λ (x : List ℕ). x ++ 41 ∷ []) (g ∙ ap (λ (x : List ℕ). x ++ behind_spaces ps) (f ∙ ap (λ (x : List ℕ). x ++ part_text p) e)),
  (is, are),
)

-- the fault of the first part, or of a later one
pub row_first_fails : (e : ShapeFault) (t : Tree Identifier) (ts : Trees Identifier) → Fails e (part_of symbol_of t) → Fails e (parts_of symbol_of (tree t ts))
row_first_fails e t ts h = fails_then e (part_of symbol_of t) (λ p. parts_of symbol_of ts >> λ ps. Ok (p ∷ ps)) h

pub row_later_fails : (e : ShapeFault) (t : Tree Identifier) (ts : Trees Identifier) (p : LibraryPart) → part_of symbol_of t ≡ Ok p → Fails e (parts_of symbol_of ts) → Fails e (parts_of symbol_of (tree t ts))
row_later_fails e t ts p first h =
    fails_same e (parts_of symbol_of ts >> λ ps. Ok (p ∷ ps)) (parts_of symbol_of (tree t ts)) (then_ok (part_of symbol_of t) (λ q. parts_of symbol_of ts >> λ ps. Ok (q ∷ ps)) p first) (fails_then e (parts_of symbol_of ts) (λ ps. Ok (p ∷ ps)) h)

-- ---- rows of one part

pub only_part : (work : Work) (ns : List number.Tree) (d : number.Tree) (ts : Trees Identifier) → length ns ≡ 1 → PartsStand work ns ts → (t : Tree Identifier) × (ts ≡ tree t no_trees) × StandsFor work (get_or ns 0 d) t
only_part work [] d ts e h = absurd (omega arith)
only_part work (n ∷ []) d no_trees e h = absurd h
only_part work (n ∷ []) d (tree t no_trees) e h = (t, refl, h.0)
only_part work (n ∷ []) d (tree t (tree u us)) e h = absurd h.1
only_part work (n ∷ m ∷ ns) d ts e h = absurd (omega arith)

pub only_standing : (work : Work) (ns : List number.Tree) (d : number.Tree) (ts : Trees Identifier) → length ns ≡ 1 → PartsStand work ns ts → (t : Tree Identifier) × StandsFor work (get_or ns 0 d) t
only_standing work ns d ts e h = let p = only_part work ns d ts e h in (p.0, p.2)

pub library_not_one : (k : Known) (work : Work) (ns : List number.Tree) (ts : Trees Identifier) → length ns ≢ 1 → PartsStand work ns ts → library_holds k ts ≡ Err BadForm
library_not_one k work ns no_trees e h = refl
library_not_one k work [] (tree t ts) e h = absurd h
library_not_one k work (n ∷ []) (tree t no_trees) e h = absurd (e refl)
library_not_one k work (n ∷ m ∷ ns) (tree t no_trees) e h = absurd h.1
library_not_one k work (n ∷ ns) (tree t (tree u us)) e h = refl

pub none_not_one : (k : Known) (work : Work) (ns : List number.Tree) (ts : Trees Identifier) → length ns ≢ 1 → PartsStand work ns ts → none_holds symbol_of k ts ≡ Err BadForm
none_not_one k work ns no_trees e h = refl
none_not_one k work [] (tree t ts) e h = absurd h
none_not_one k work (n ∷ []) (tree t no_trees) e h = absurd (e refl)
none_not_one k work (n ∷ m ∷ ns) (tree t no_trees) e h = absurd h.1
none_not_one k work (n ∷ ns) (tree t (tree u us)) e h = refl

-- ---- requirements that are lists

pub dotted_holds : (k : Known) (ts : Trees Identifier) (u : Tree Identifier) (o : Option Occ) → holds symbol_of k (list ts (dotted u) o) ≡ Err BadForm
dotted_holds k no_trees u o = refl
dotted_holds k (tree (name i p) ts) u o = refl
dotted_holds k (tree (atom a p) ts) u o = refl
dotted_holds k (tree (list us f p) ts) u o = refl
dotted_holds k (tree (vector us p) ts) u o = refl

pub named_holds : (k : Known) (i : Identifier) (p : Option Occ) (ts : Trees Identifier) (o : Option Occ) (s : List ℕ) → s ≡ symbol_of i → holds symbol_of k (list (tree (name i p) ts) proper o) ≡ word_holds k s ts
named_holds k i p ts o s h =
    go (bytes_eq (symbol_of i) (codes "and")) (bytes_eq (symbol_of i) (codes "or")) (bytes_eq (symbol_of i) (codes "not")) (bytes_eq (symbol_of i) (codes "library")) ∙ ap (λ (w : List ℕ). word_holds k w ts) (sym h)
  where
    go : (a b c d : Bool) → cond a (all_hold symbol_of k ts) (cond b (some_holds symbol_of k ts) (cond c (none_holds symbol_of k ts) (cond d (library_holds k ts) (Err BadForm))))
        ≡ by_connective k (cond a word.And (cond b word.Or (cond c word.Not (cond d word.Library word.Unknown)))) ts
    go true b c d = refl
    go false true c d = refl
    go false false true d = refl
    go false false false true = refl
    go false false false false = refl

-- ---- several requirements

and_group : (a h : Bool) (r : Result Bool (Fault Identifier)) → map_ok (λ (b : Bool). a && b) (r >> λ b. Ok (h && b)) ≡ map_ok (λ (b : Bool). (a && h) && b) r
and_group true h (Ok b) = refl
and_group false h (Ok b) = refl
and_group a h (Err e) = refl

or_group : (a h : Bool) (r : Result Bool (Fault Identifier)) → map_ok (λ (b : Bool). a || b) (r >> λ b. Ok (h || b)) ≡ map_ok (λ (b : Bool). (a || h) || b) r
or_group true h (Ok b) = refl
or_group false h (Ok b) = refl
or_group a h (Err e) = refl

module _ (k : Known) (t : Tree Identifier) (ts us : Trees Identifier) (split : us ≡ tree t ts) (whole : Result Bool (Fault Identifier)) (a : Bool) where
  pub all_more : (h : Bool) → whole ≡ map_ok (λ (b : Bool). a && b) (all_hold symbol_of k us) → holds symbol_of k t ≡ Ok h → whole ≡ map_ok (λ (b : Bool). (a && h) && b) (all_hold symbol_of k ts)
  all_more h so_far here =
      so_far ∙ ap (λ (x : Trees Identifier). map_ok (λ (b : Bool). a && b) (all_hold symbol_of k x)) split ∙ ap (λ r. map_ok (λ (b : Bool). a && b) (r >> λ x. all_hold symbol_of k ts >> λ b. Ok (x && b))) here ∙ and_group a h (all_hold symbol_of k ts)

  pub all_fails : (e : ShapeFault) → whole ≡ map_ok (λ (b : Bool). a && b) (all_hold symbol_of k us) → Fails e (holds symbol_of k t) → Fails e whole
  all_fails fault.BadForm so_far here =
      so_far ∙ ap (λ (x : Trees Identifier). map_ok (λ (b : Bool). a && b) (all_hold symbol_of k x)) split ∙ ap (λ r. map_ok (λ (b : Bool). a && b) (r >> λ x. all_hold symbol_of k ts >> λ b. Ok (x && b))) here
  all_fails fault.Memory so_far here = tt

  pub some_more : (h : Bool) → whole ≡ map_ok (λ (b : Bool). a || b) (some_holds symbol_of k us) → holds symbol_of k t ≡ Ok h → whole ≡ map_ok (λ (b : Bool). (a || h) || b) (some_holds symbol_of k ts)
  some_more h so_far here =
      so_far ∙ ap (λ (x : Trees Identifier). map_ok (λ (b : Bool). a || b) (some_holds symbol_of k x)) split ∙ ap (λ r. map_ok (λ (b : Bool). a || b) (r >> λ x. some_holds symbol_of k ts >> λ b. Ok (x || b))) here ∙ or_group a h (some_holds symbol_of k ts)

  pub some_fails : (e : ShapeFault) → whole ≡ map_ok (λ (b : Bool). a || b) (some_holds symbol_of k us) → Fails e (holds symbol_of k t) → Fails e whole
  some_fails fault.BadForm so_far here =
      so_far ∙ ap (λ (x : Trees Identifier). map_ok (λ (b : Bool). a || b) (some_holds symbol_of k x)) split ∙ ap (λ r. map_ok (λ (b : Bool). a || b) (r >> λ x. some_holds symbol_of k ts >> λ b. Ok (x || b))) here
  some_fails fault.Memory so_far here = tt

and_true : (a : Bool) → (a && true) ≡ a
and_true true = refl
and_true false = refl

or_false : (a : Bool) → (a || false) ≡ a
or_false true = refl
or_false false = refl

pub and_itself : (r : Result Bool (Fault Identifier)) → r ≡ map_ok (λ (b : Bool). true && b) r
and_itself (Ok b) = refl
and_itself (Err e) = refl

pub or_itself : (r : Result Bool (Fault Identifier)) → r ≡ map_ok (λ (b : Bool). false || b) r
or_itself (Ok b) = refl
or_itself (Err e) = refl

-- all of a row were read
pub all_end : (k : Known) (us : Trees Identifier) (a : Bool) → us ≡ no_trees → map_ok (λ (b : Bool). a && b) (all_hold symbol_of k us) ≡ Ok a
all_end k us a h = ap (λ (x : Trees Identifier). map_ok (λ (b : Bool). a && b) (all_hold symbol_of k x)) h ∙ ap Ok (and_true a)

pub some_end : (k : Known) (us : Trees Identifier) (a : Bool) → us ≡ no_trees → map_ok (λ (b : Bool). a || b) (some_holds symbol_of k us) ≡ Ok a
some_end k us a h = ap (λ (x : Trees Identifier). map_ok (λ (b : Bool). a || b) (some_holds symbol_of k x)) h ∙ ap Ok (or_false a)

-- ---- clauses

pub plain_clause : (k : Known) (t : Tree Identifier) (last : Bool) → is_else symbol_of t ≡ false → clause_judged k t last ≡ holds symbol_of k t
plain_clause k t last h = ap (λ (b : Bool). cond b (cond last (Ok true) (Err BadForm)) (holds symbol_of k t)) h

-- ---- known names

has_push : (ts : List (List ℕ)) (t s : List ℕ) → has_name (ts ++ t ∷ []) s ≡ (has_name ts s || bytes_eq t s)
has_push [] t s = flip (bytes_eq t s)
  where
    flip : (b : Bool) → (b || false) ≡ b
    flip true = refl
    flip false = refl
has_push (u ∷ ts) t s = ap (λ b. bytes_eq u s || b) (has_push ts t s) ∙ group (bytes_eq u s) (has_name ts s) (bytes_eq t s)
  where
    group : (a b c : Bool) → (a || (b || c)) ≡ ((a || b) || c)
    group true b c = refl
    group false b c = refl

pub known_more : (known : List (List ℕ)) (i : ℕ) (t key s : List ℕ) (old new : Bool) → i < length known → t ≡ get_or known i t → key ≡ t → old ≡ has_name (take i known) s → new ≡ cond (bytes_eq key s) true old → new ≡ has_name (take (i + 1) known) s
known_more known i t key s old new lt is k o n =
    n ∙ (λ j. cond (bytes_eq (k j) s) true (o j)) ∙ flip (bytes_eq t s) (has_name (take i known) s) ∙ sym (has_push (take i known) t s) ∙ ap (λ (y : List ℕ). has_name (take i known ++ y ∷ []) s) is
    ∙ ap (λ (l : List (List ℕ)). has_name l s) (sym (take_more known i t lt))
  where
    flip : (a b : Bool) → cond a true b ≡ (b || a)
    flip true true = refl
    flip true false = refl
    flip false true = refl
    flip false false = refl

-- what has the names of libraries knows the libraries of these texts
pub knows_listed : (libraries : BTreeSet (String Global)) (texts : List (List ℕ)) → ((s : List ℕ) → contains_text libraries s ≡ has_name texts s) → Knows libraries (λ n. has_name texts (library_text n))
knows_listed libraries texts h n written = sym (h (library_text n))

pub dotted_name : (ts : Trees Identifier) (u : Tree Identifier) → name_in_list ts (dotted u) ≡ Err BadForm
dotted_name no_trees u = refl
dotted_name (tree t ts) u = refl

-- what is behind the first is no deeper
pub rest_within : (work : Work) (ns : List number.Tree) (n : number.Tree) (ms : List number.Tree) (d : ℕ) → ns ≡ n ∷ ms → PartsWithin work ns d → PartsWithin work ms d
rest_within work ns n ms d e h = go h.0 (subst (λ (x : List number.Tree). PartsStand work x h.0) e h.1) h.2
  where
    go : (ts : Trees Identifier) → PartsStand work (n ∷ ms) ts → trees_depth ts ≤ d → PartsWithin work ms d
    go no_trees g l = absurd g
    go (tree t us) g l = (us, g.1, omega arith)

-- a list that begins with a word
pub list_named : (k : Known) (ts us : Trees Identifier) (t : Tree Identifier) (tail : Tail Identifier) (o : Option Occ) (i : Identifier) (p : Option Occ) (s : List ℕ) → ts ≡ tree t us → t ≡ name i p → tail ≡ proper → s ≡ symbol_of i →
    holds symbol_of k (list ts tail o) ≡ word_holds k s us
list_named k ts us t tail o i p s e f g h =
    ap (λ (x : Trees Identifier). holds symbol_of k (list x tail o)) (e ∙ ap (λ (x : Tree Identifier). tree x us) f) ∙ ap (λ (x : Tail Identifier). holds symbol_of k (list (tree (name i p) us) x o)) g ∙ named_holds k i p us o s h
