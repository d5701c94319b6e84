-- The trees of data in a row.
use Rattle.std.proofs.Common.{◌≡◌, ℕ, ◌+◌, ◌<◌, ◌≤◌, List, [], ◌∷◌, ◌++◌, append_assoc, append-nil, length, get_or, drop, Result, Ok, refl, sym, ap, ◌∙◌}
use Rattle.std.proofs.lemmas.List.{drop_more, at_drop_all}
use Rattle.scheme_model.specs.declared.Occ.{Occ}
use Rattle.scheme_model.specs.Trees.{Tree, Trees, no_trees, tree}
use Rattle.scheme_model.specs.ExpansionFaults.{Fault, ◌>>◌}
use Rattle.scheme_model.specs.Requirements.{LibraryName, LibraryPart, part_of, parts_of}
use Rattle.datum_reader.specs.declared.datum.Datum as code
use Rattle.datum_reader.specs.declared.shape_fault.ShapeFault.{ShapeFault}
use Rattle.datum_reader.specs.Looks.{tree_at, trees_at}
use Rattle.known_libraries.specs.PartsRead.{Fails, part_text, behind_spaces, library_text, map_ok}
use Rattle.known_libraries.proofs.Chaining.{fails_same, each_of, in_front, front_none, each_more, each_fails}

pub trees_more : (place : ℕ → Occ) (ds : List code.Datum) (i : ℕ) (d : code.Datum) → i < length ds → d ≡ get_or ds i d → trees_at place (drop i ds) ≡ tree (tree_at place d) (trees_at place (drop (i + 1) ds))
trees_more place ds i d lt is =
    ap (trees_at place) (drop_more ds i d lt) ∙ ap (λ (x : code.Datum). tree (tree_at place x) (trees_at place (drop (i + 1) ds))) (sym is)

pub trees_end : (place : ℕ → Occ) (ds : List code.Datum) (i : ℕ) → length ds ≤ i → trees_at place (drop i ds) ≡ no_trees
trees_end place ds i h = at_drop_all (trees_at place) ds i h

-- ---- a name's parts

pub parts_each : (ts : Trees (List ℕ)) → parts_of (λ s. s) ts ≡ each_of (part_of (λ s. s)) ts
parts_each no_trees = refl
parts_each (tree t ts) = ap (λ (x : Result LibraryName (Fault (List ℕ))). part_of (λ s. s) t >> λ n. x >> λ ns. Ok (n ∷ ns)) (parts_each ts)

-- ---- the text of a name

-- so many parts are put behind a text
pub record PutsUpTo (place : ℕ → Occ) (ds : List code.Datum) (i : ℕ) (old new : List ℕ) : Type 0 where
  pub parts : LibraryName
  pub text : new ≡ old ++ behind_spaces parts
  pub so_far : each_of (part_of (λ s. s)) (trees_at place ds) ≡ in_front parts (each_of (part_of (λ s. s)) (trees_at place (drop i ds)))

behind_push : (ps : LibraryName) (p : LibraryPart) → behind_spaces (ps ++ p ∷ []) ≡ behind_spaces ps ++ (32 ∷ part_text p)
behind_push [] p = ap (λ (t : List ℕ). 32 ∷ t) (append-nil (part_text p))
behind_push (q ∷ ps) p =
    ap (λ (t : List ℕ). 32 ∷ (part_text q ++ t)) (behind_push ps p) ∙ ap (λ (t : List ℕ). 32 ∷ t) (sym (append_assoc (part_text q) (behind_spaces ps) (32 ∷ part_text p)))

pub puts_none : (place : ℕ → Occ) (ds : List code.Datum) (old : List ℕ) → PutsUpTo place ds 0 old old
puts_none place ds old = record { parts = []; text = sym (append-nil old); so_far = front_none (each_of (part_of (λ s. s)) (trees_at place ds)) }

pub puts_more : (place : ℕ → Occ) (ds : List code.Datum) (i : ℕ) (d : code.Datum) (old now mid new : List ℕ) (p : LibraryPart) → i < length ds → d ≡ get_or ds i d → PutsUpTo place ds i old now → mid ≡ now ++ 32 ∷ [] →
    part_of (λ s. s) (tree_at place d) ≡ Ok p → new ≡ mid ++ part_text p → PutsUpTo place ds (i + 1) old new
puts_more place ds i d old now mid new p lt is h spaced here put = record {
  parts = h.parts ++ p ∷ [];
  text =
      put ∙ ap (λ (t : List ℕ). t ++ part_text p) (spaced ∙ ap (λ (t : List ℕ). t ++ 32 ∷ []) h.text) ∙ append_assoc (old ++ behind_spaces h.parts) (32 ∷ []) (part_text p)
      ∙ append_assoc old (behind_spaces h.parts) (32 ∷ part_text p) ∙ ap (λ (t : List ℕ). old ++ t) (sym (behind_push h.parts p));
  so_far =
      each_more (part_of (λ s. s)) (each_of (part_of (λ s. s)) (trees_at place ds)) h.parts p (tree_at place d) (trees_at place (drop (i + 1) ds))
      (h.so_far ∙ ap (λ ts. in_front h.parts (each_of (part_of (λ s. s)) ts)) (trees_more place ds i d lt is)) here;
}

pub puts_fail : (place : ℕ → Occ) (ds : List code.Datum) (i : ℕ) (d : code.Datum) (old now : List ℕ) (e : ShapeFault) → i < length ds → d ≡ get_or ds i d → PutsUpTo place ds i old now → Fails e (part_of (λ s. s) (tree_at place d)) →
    Fails e (parts_of (λ s. s) (trees_at place ds))
puts_fail place ds i d old now e lt is h here =
    fails_same e (each_of (part_of (λ s. s)) (trees_at place ds)) (parts_of (λ s. s) (trees_at place ds)) (parts_each (trees_at place ds))
    (each_fails (part_of (λ s. s)) (each_of (part_of (λ s. s)) (trees_at place ds)) h.parts e (tree_at place d) (trees_at place (drop (i + 1) ds))
    (h.so_far ∙ ap (λ ts. in_front h.parts (each_of (part_of (λ s. s)) ts)) (trees_more place ds i d lt is)) here)

pub puts_end : (place : ℕ → Occ) (ds : List code.Datum) (i : ℕ) (old new : List ℕ) → length ds ≤ i → PutsUpTo place ds i old new → (ps : LibraryName) × (parts_of (λ s. s) (trees_at place ds) ≡ Ok ps) × (new ≡ old ++ behind_spaces ps)
puts_end place ds i old new h k =
    (k.parts, parts_each (trees_at place ds) ∙ k.so_far ∙ ap (λ ts. in_front k.parts (each_of (part_of (λ s. s)) ts)) (trees_end place ds i h) ∙ ap Ok (append-nil k.parts), k.text)

-- a name's text by its first part and the others
pub row_text : (t : Tree (List ℕ)) (ts : Trees (List ℕ)) (p : LibraryPart) (ps : LibraryName) (a b c d : List ℕ) → part_of (λ s. s) t ≡ Ok p → parts_of (λ s. s) ts ≡ Ok ps →
    a ≡ 40 ∷ [] → b ≡ a ++ part_text p → c ≡ b ++ behind_spaces ps → d ≡ c ++ 41 ∷ [] → map_ok library_text (parts_of (λ s. s) (tree t ts)) ≡ Ok d
row_text t ts p ps a b c d first others e f g h =
    ap (map_ok library_text) (ap (λ r. r >> λ q. parts_of (λ s. s) ts >> λ qs. Ok (q ∷ qs)) first ∙ ap (λ r. r >> λ qs. Ok (p ∷ qs)) others)
    ∙ ap Ok (sym (h ∙ ap (λ (x : List ℕ). x ++ 41 ∷ []) (g ∙ ap (λ (x : List ℕ). x ++ behind_spaces ps) (f ∙ ap (λ (x : List ℕ). x ++ part_text p) e))))
