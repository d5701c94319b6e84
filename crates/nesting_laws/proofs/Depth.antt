-- Includes are nested no deeper than there are documents, so what texts give includes all that they include.
use Rattle.std.proofs.Common.{◌≡◌, ℕ, zero, suc, ◌+◌, ◌≤◌, ◌<◌, List, [], ◌∷◌, ◌++◌, length, Bool, true, false, not, Option, Some, None, refl, sym, ap, ◌∙◌, subst, arith, if◌then◌else◌}
use Rattle.std.specs.Prelude.{◌&&◌}
use Rattle.std.specs.List.{flat_map, list_any}
use Rattle.std.proofs.lemmas.List.{length-map}
use Rattle.scheme_model.specs.Data.{Datum}
use Rattle.scheme_model.specs.Declarations.{is_library}
use Rattle.scheme_model.specs.Includes.{StringAt, strings_in, Document, data_of, document_at, all_meant, names_of, Naming, naming, is_among, named_by, is_on_circle, is_part, is_usable, usable_from, usable, program_data, program_number}
use Rattle.scheme_model.specs.Included.{Listing, Texts, forms_of, declarations_of, Given, given_at, lost, given_or_lost, Sources, texts, included_data, given_from, given, all_texts}
use Rattle.nesting_laws.specs.Onward.{onward}
use Rattle.nesting_laws.proofs.Places.{Is, never, or_left, or_right, same_itself, both_ways, passing, among_passing, passing_among}
use Rattle.nesting_laws.proofs.Closed.{fewer_onward, not_all_onward}
use Rattle.nesting_laws.proofs.SameTexts.{SameFor, forms_same, declarations_all_same}

-- ---- what can be included

usable_passing : (all : Naming) (ds : List Document) (n : ℕ) (rest : List Document) → usable_from all ds n rest ≡ passing (is_usable all ds) n rest
usable_passing all ds n [] = refl
usable_passing all ds n (d ∷ rest) = λ j. if is_usable all ds n then n ∷ usable_passing all ds (suc n) rest j else usable_passing all ds (suc n) rest j

and_left : (a b : Bool) → Is (a && b) → Is a
and_left true b h = refl
and_left false b h = never h

and_right : (a b : Bool) → Is (a && b) → Is b
and_right true b h = h
and_right false b h = never h

not_true : (b : Bool) → Is (not b) → b ≡ false
not_true true h = never h
not_true false h = refl

-- a document is among them where it can be included
pub usable_told : (ds : List Document) (m : ℕ) → m < length ds → is_among (usable (naming ds) ds) m ≡ is_usable (naming ds) ds m
usable_told ds m lt =
    ap (λ ns. is_among ns m) (usable_passing (naming ds) ds 0 ds)
    ∙ both_ways (is_among (passing (is_usable (naming ds) ds) 0 ds) m) (is_usable (naming ds) ds m) (λ h. (passing_among (is_usable (naming ds) ds) 0 ds m h).2)
    (among_passing (is_usable (naming ds) ds) 0 ds m (omega arith) (omega arith))

-- it is a document that isn't on a circle
pub usable_there : (ds : List Document) (m : ℕ) → Is (is_among (usable (naming ds) ds) m) → m < length ds
usable_there ds m h =
    let w = passing_among (is_usable (naming ds) ds) 0 ds m (subst (λ (ns : List ℕ). Is (is_among ns m)) (usable_passing (naming ds) ds 0 ds) h) in omega (arith, w.1)

pub usable_apart : (ds : List Document) (m : ℕ) → Is (is_among (usable (naming ds) ds) m) → is_on_circle (naming ds) m ≡ false
usable_apart ds m h =
    let all = naming ds in
    let w = passing_among (is_usable all ds) 0 ds m (subst (λ (ns : List ℕ). Is (is_among ns m)) (usable_passing all ds 0 ds) h) in
    not_true (is_on_circle all m) (and_right (list_any (λ ns. is_among ns m) all) (not (is_on_circle all m)) (and_left (is_part all m) _ w.2))

-- what a document names
names_at : (ds : List Document) (n : ℕ) → named_by (naming ds) n ≡ names_of (document_at ds n)
names_at [] n = refl
names_at (d ∷ ds) zero = refl
names_at (d ∷ ds) (suc n) = names_at ds n

-- ---- strings

meant_first : (d : Document) (s : StringAt) (ss : List StringAt) (m : ℕ) → d.meant s.characters ≡ Some m → Is (is_among (all_meant d (s ∷ ss)) m)
meant_first d s ss m e = rw e (or_left _ (is_among (all_meant d ss) m) (same_itself m))

meant_later : (d : Document) (s : StringAt) (ss : List StringAt) (m : ℕ) → Is (is_among (all_meant d ss) m) → Is (is_among (all_meant d (s ∷ ss)) m)
meant_later d s ss m h = go (d.meant s.characters) refl
  where
    go : (r : Option ℕ) → d.meant s.characters ≡ r → Is (is_among (all_meant d (s ∷ ss)) m)
    go None e = rw e h
    go (Some k) e = rw e (or_right _ (is_among (all_meant d ss) m) h)

given_same : (us : List ℕ) (f g : ℕ → Listing) (r : Option ℕ) (other : Listing) → ((m : ℕ) → r ≡ Some m → Is (is_among us m) → f m ≡ g m) → given_or_lost us f r other ≡ given_or_lost us g r other
given_same us f g None other h = refl
given_same us f g (Some m) other h = go (is_among us m) refl
  where
    go : (b : Bool) → is_among us m ≡ b → (if b then f m else other) ≡ (if b then g m else other)
    go true e = h m refl e
    go false e = refl

-- strings that mean what two tables give alike
same_for : (o : Sources) (n : ℕ) (gs hs : List Given) (ss : List StringAt)
    → ((m : ℕ) → Is (is_among (all_meant (document_at o.documents n) ss) m) → Is (is_among o.usable m) → given_at gs m ≡ given_at hs m) → SameFor (texts o gs) (texts o hs) n ss
same_for o n gs hs [] h = tt
same_for o n gs hs (s ∷ ss) h =
    let d = document_at o.documents n in (
      (
        given_same o.usable (λ m. (given_at gs m).forms) (λ m. (given_at hs m).forms) (d.meant s.characters) (lost n s) (λ m e u. ap (λ (g : Given). g.forms) (h m (meant_first d s ss m e) u)),
        given_same o.usable (λ m. (given_at gs m).declarations) (λ m. (given_at hs m).declarations) (d.meant s.characters) (lost n s)
            (λ m e u. ap (λ (g : Given). g.declarations) (h m (meant_first d s ss m e) u)),
      ),
      same_for o n gs hs ss (λ m a u. h m (meant_later d s ss m a) u),
    )

front : (t u : Texts) (n : ℕ) (ss rs : List StringAt) → SameFor t u n (ss ++ rs) → SameFor t u n ss
front t u n [] rs h = tt
front t u n (s ∷ ss) rs h = (h.0, front t u n ss rs h.1)

back : (t u : Texts) (n : ℕ) (ss rs : List StringAt) → SameFor t u n (ss ++ rs) → SameFor t u n rs
back t u n [] rs h = h
back t u n (s ∷ ss) rs h = back t u n ss rs h.1

both : (t u : Texts) (n : ℕ) (ss rs : List StringAt) → SameFor t u n ss → SameFor t u n rs → SameFor t u n (ss ++ rs)
both t u n [] rs h k = k
both t u n (s ∷ ss) rs h k = (h.0, both t u n ss rs h.1 k)

-- those of a program's data
of_program : (t u : Texts) (n : ℕ) (ds : List Datum) → SameFor t u n (flat_map strings_in ds) → SameFor t u n (flat_map strings_in (program_data ds))
of_program t u n [] h = h
of_program t u n (d ∷ ds) h = go (not (is_library d)) (front t u n (strings_in d) (flat_map strings_in ds) h) (of_program t u n ds (back t u n (strings_in d) (flat_map strings_in ds) h))
  where
    go : (b : Bool) → SameFor t u n (strings_in d) → SameFor t u n (flat_map strings_in (program_data ds)) → SameFor t u n (flat_map strings_in (if b then d ∷ program_data ds else program_data ds))
    go true here rest = both t u n (strings_in d) (flat_map strings_in (program_data ds)) here rest
    go false here rest = rest

-- ---- what a document gives

abbrev given_by : Sources → Texts → ℕ → Given
given_by o t m = record { forms = forms_of t (included_data o.documents m); declarations = declarations_of t o.known (included_data o.documents m) }

given_there : (o : Sources) (t : Texts) (n : ℕ) (ds : List Document) (m : ℕ) → m < length ds → given_at (given_from o t n ds) m ≡ given_by o t (n + m)
given_there o t n [] m lt = absurd (omega arith)
given_there o t n (d ∷ ds) zero lt = let e : n ≡ n + 0 = omega arith in ap (given_by o t) e
given_there o t n (d ∷ ds) (suc m) lt = let e : suc n + m ≡ n + suc m = omega arith in given_there o t (suc n) ds m (omega arith) ∙ ap (given_by o t) e

given_alike : (o : Sources) (t u : Texts) (m : ℕ) → t.limit ≡ u.limit → SameFor t u m (flat_map strings_in (data_of (document_at o.documents m))) → given_by o t m ≡ given_by o u m
given_alike o t u m e h =
    let data_here = program_data (data_of (document_at o.documents m)) in
    let inside = of_program t u m (data_of (document_at o.documents m)) h in
    let forms = forms_same t u m e (program_number o.documents m) 0 data_here inside in
    let declared = declarations_all_same t u m e o.known (program_number o.documents m) 0 data_here inside in
    λ j. record { forms = forms j; declarations = declared j }

module _ (o : Sources) (whole : o.usable ≡ usable (naming o.documents) o.documents) where
  there : (m : ℕ) → Is (is_among o.usable m) → m < length o.documents
  there m h = usable_there o.documents m (subst (λ (us : List ℕ). Is (is_among us m)) whole h)

  apart : (m : ℕ) → Is (is_among o.usable m) → is_on_circle (naming o.documents) m ≡ false
  apart m h = usable_apart o.documents m (subst (λ (us : List ℕ). Is (is_among us m)) whole h)

  size : length (naming o.documents) ≡ length o.documents
  size = length-map o.documents names_of

  -- what a string of a document means that can be included names fewer documents onward
  nearer : (n m : ℕ) → Is (is_among (all_meant (document_at o.documents n) (flat_map strings_in (data_of (document_at o.documents n)))) m) → Is (is_among o.usable m) →
      length (onward (naming o.documents) m) < length (onward (naming o.documents) n)
  nearer n m h u =
      let lt = there m u in
      fewer_onward (naming o.documents) n m (omega (arith, size)) (subst (λ (ns : List ℕ). Is (is_among ns m)) (sym (names_at o.documents n)) h) (apart m u)

  -- deep enough is enough
  deep : (k d e n : ℕ) → length (onward (naming o.documents) n) ≤ k → k ≤ d → k ≤ e → SameFor (texts o (given o d)) (texts o (given o e)) n (flat_map strings_in (data_of (document_at o.documents n)))
  deep zero d e n few le ge = same_for o n (given o d) (given o e) (flat_map strings_in (data_of (document_at o.documents n))) (λ m h u. let less = nearer n m h u in absurd (omega arith))
  deep (suc k) zero e n few le ge = absurd (omega arith)
  deep (suc k) (suc d) zero n few le ge = absurd (omega arith)
  deep (suc k) (suc d) (suc e) n few le ge =
      same_for o n (given o (suc d)) (given o (suc e)) (flat_map strings_in (data_of (document_at o.documents n))) (λ m h u.
      let less = nearer n m h u in
      let lt = there m u in
      let same = given_alike o (texts o (given o d)) (texts o (given o e)) m refl (deep k d e m (omega arith) (omega arith) (omega arith)) in
      let none : 0 + m ≡ m = omega arith in
      given_there o (texts o (given o d)) 0 o.documents m lt ∙ ap (given_by o (texts o (given o d))) none ∙ same ∙ sym (given_there o (texts o (given o e)) 0 o.documents m lt ∙ ap (given_by o (texts o (given o e))) none))

  settled : (size : ℕ) → length o.documents ≡ size → (m : ℕ) → Is (is_among o.usable m) → given_at (given o size) m ≡ given_by o (texts o (given o size)) m
  settled zero e m u = let lt = there m u in absurd (omega arith)
  settled (suc k) e m u =
      let lt = there m u in
      let few = not_all_onward (naming o.documents) m (omega (arith, size)) (apart m u) in
      let none : 0 + m ≡ m = omega arith in
      given_there o (texts o (given o k)) 0 o.documents m lt ∙ ap (given_by o (texts o (given o k))) none
      ∙ given_alike o (texts o (given o k)) (texts o (given o (suc k))) m refl (deep k k (suc k) m (omega (arith, size)) (omega arith) (omega arith))

  chosen : (f : ℕ → Listing) (r : Option ℕ) (m : ℕ) (other : Listing) → r ≡ Some m → Is (is_among o.usable m) → given_or_lost o.usable f r other ≡ f m
  chosen f r m other e u = ap (λ q. given_or_lost o.usable f q other) e ∙ ap (λ b. if b then f m else other) u

  -- what a string means that can be included gives its forms, and its declarations
  pub gives_forms : (n m : ℕ) (s : StringAt) → (document_at o.documents n).meant s.characters ≡ Some m → Is (is_among o.usable m) → (all_texts o).as_forms n s ≡ forms_of (all_texts o) (included_data o.documents m)
  gives_forms n m s e u =
      chosen (λ m. (given_at (given o (length o.documents)) m).forms) ((document_at o.documents n).meant s.characters) m (lost n s) e u
      ∙ ap (λ (g : Given). g.forms) (settled (length o.documents) refl m u)

  pub gives_declarations : (n m : ℕ) (s : StringAt) → (document_at o.documents n).meant s.characters ≡ Some m → Is (is_among o.usable m) →
      (all_texts o).as_declarations n s ≡ declarations_of (all_texts o) o.known (included_data o.documents m)
  gives_declarations n m s e u =
      chosen (λ m. (given_at (given o (length o.documents)) m).declarations) ((document_at o.documents n).meant s.characters) m (lost n s) e u
      ∙ ap (λ (g : Given). g.declarations) (settled (length o.documents) refl m u)
