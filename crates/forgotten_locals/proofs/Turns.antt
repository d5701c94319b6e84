-- A unit worked on in a way that follows the work in which every form is expanded: what is kept may be kept in one where it may be kept in
-- the other, each form may begin where its turns come, and both come to the same.
use Rattle.std.proofs.Common.{◌≡◌, ◌↔◌, ℕ, ◌+◌, List, [], ◌∷◌, map, Bool, true, false, cond, Option, Some, None, Result, refl, sym, ap, ◌∙◌, subst}
use Rattle.std.specs.Prelude.{nat_lt}
use Rattle.scheme_model.specs.Ident.{Ident}
use Rattle.scheme_model.specs.Trees.{Tree}
use Rattle.scheme_model.specs.Requirements.{Known}
use Rattle.scheme_model.specs.Steps.{Broken}
use Rattle.scheme_model.specs.RulesShape.{option_map}
use Rattle.scheme_model.specs.Order.{Left, Note, Pass}
use Rattle.scheme_model.specs.Substitution.{definition_count}
use Rattle.scheme_model.specs.UnitExpansion.{unless_over, max_total, nodes_in}
use Rattle.scheme_model.specs.ScopedExpansion.{FramedIdent, ScopedMacro, UsePlace, BodyDefinitions, ScopedState}
use Rattle.scheme_model.specs.CountedExpansion.{counted}
use Rattle.scheme_model.specs.Questions.{Around}
use Rattle.scheme_model.specs.FormsAlike.{bound_moved, set_aside, start, bare_note, bare_state}
use Rattle.model_laws.proofs.FrameAsks.{AllOf}
use Rattle.model_laws.proofs.UnitEnds.{Both, both_end, both_go, both_at, both_then, both_over}
use Rattle.form_laws.specs.Begins.{Each, FormBegins, RestBegins}
use Rattle.kept_forms.specs.KeptForms.{KeptForm, KeptParts, FormOrKept, LeftOrKept, around_form, goes_through, comes_to, counts_at, kept_moved, rest_kept, numbers_of}
use Rattle.kept_forms.specs.Carried.{Onwards, PassKept, RestKept, RestFits, FormFits, no_counts}
use Rattle.kept_forms.proofs.Bares.{bare_around}
use Rattle.kept_forms.proofs.Fronts.{nodes_like}
use Rattle.kept_forms.proofs.Numbers.{LeftIs, left_is}
use Rattle.kept_forms.proofs.OneForm.{PassLike, pass_like, BegunAt}
use Rattle.kept_forms.proofs.UsesCounted.{counts_here}
use Rattle.forgotten_locals.specs.Ways.{Way, anew, left_of, firsts_by, seconds_by, unit_by, AtFirsts, AtSeconds, AtTurns, IsKept, IsRestKept, AllKept, CanBegin, RestCanBegin, AllBegin}

-- ---- where work goes to

pub onwards_left : {S T X Y : Type 0} {Ended : S → T → Type 0} {Going : S → T → X → Y → Type 0} {q : Option X × S} {m : Option Y × T} (P : X → S → Type 0)
    → Onwards P q → Both Ended Going q m → Both Ended (λ s t x y. P x s × Going s t x y) q m
onwards_left P k (both_end s t e d h) = both_end s t e d h
onwards_left P k (both_go x y s t e d h) = both_go x y s t e d (subst (Onwards P) e k, h)

pub onwards_right : {S T X Y : Type 0} {Ended : S → T → Type 0} {Going : S → T → X → Y → Type 0} {q : Option X × S} {m : Option Y × T} (P : Y → T → Type 0)
    → Onwards P m → Both Ended Going q m → Both Ended (λ s t x y. P y t × Going s t x y) q m
onwards_right P k (both_end s t e d h) = both_end s t e d h
onwards_right P k (both_go x y s t e d h) = both_go x y s t e d (subst (Onwards P) d k, h)

pub left_onwards : {S T X Y : Type 0} {Ended : S → T → Type 0} {Going : S → T → X → Y → Type 0} {q : Option X × S} {m : Option Y × T} (P : X → S → Type 0)
    → ((s : S) (t : T) (x : X) (y : Y) → Going s t x y → P x s) → Both Ended Going q m → Onwards P q
left_onwards P f (both_end s t e d h) = subst (Onwards P) (sym e) tt
left_onwards P f (both_go x y s t e d h) = subst (Onwards P) (sym e) (f s t x y h)

pub right_onwards : {S T X Y : Type 0} {Ended : S → T → Type 0} {Going : S → T → X → Y → Type 0} {q : Option X × S} {m : Option Y × T} (P : Y → T → Type 0)
    → ((s : S) (t : T) (x : X) (y : Y) → Going s t x y → P y t) → Both Ended Going q m → Onwards P m
right_onwards P f (both_end s t e d h) = subst (Onwards P) (sym d) tt
right_onwards P f (both_go x y s t e d h) = subst (Onwards P) (sym d) (f s t x y h)

onwards_map : {S X : Type 0} (P Q : X → S → Type 0) → ((x : X) (s : S) → P x s → Q x s) → (q : Option X × S) → Onwards P q → Onwards Q q
onwards_map P Q f (None, s) h = tt
onwards_map P Q f (Some x, s) h = f x s h

-- ---- what is left of a form

-- where the unit has so many definitions before it
abbrev rest_at : ℕ → Option KeptForm → Option KeptParts
rest_at n None = None
rest_at n (Some k) = option_map (λ (c : KeptParts). kept_moved (bound_moved c.before n) c) k.parts

rest_is : (v : Around) (o : Option KeptForm) → rest_kept v o ≡ rest_at (definition_count v.state.table v.state.unit) o
rest_is v None = refl
rest_is v (Some k) = refl

pub rest_same : (v w : Around) (o : Option KeptForm) → definition_count v.state.table v.state.unit ≡ definition_count w.state.table w.state.unit → rest_kept v o ≡ rest_kept w o
rest_same v w o e = rest_is v o ∙ ap (λ n. rest_at n o) e ∙ sym (rest_is w o)

-- what is kept of the rest is of what is left, from what was counted by then
abbrev pub RestIsOf : LeftOrKept → Type 0
RestIsOf r = LeftIs r.left r.kept × BegunAt r.counts r.kept

begun_at : (v : Around) (turns : ℕ) (t : Tree Ident) (o : Option KeptForm) → FormFits o → BegunAt (counts_at v.state.form (goes_through v turns t o).1) (rest_kept v o)
begun_at v turns t None h = tt
begun_at v turns t (Some k) h = go k.parts h
  where
    go : (p : Option KeptParts) → RestFits k.aside p → BegunAt (counts_at v.state.form (goes_through v turns t (Some k)).1) (rest_kept v (Some (record { aside = k.aside; parts = p })))
    go None h = tt
    go (Some p) h = counts_here v k.aside.moment ∙ sym h.0

module _ (w : Around) (turns : ℕ) (t : Tree Ident) (o : Option KeptForm) (new : start w.state ≡ no_counts) (h : FormBegins w t) (k : PassKept w turns t o) (f : FormFits o) where
  abbrev pub as_kept : PassLike (set_aside w turns t) (goes_through w turns t o)
  as_kept = pass_like w w refl turns t o new h k

  pub left_fits : LeftIs (set_aside w turns t).0.left (rest_kept w o)
  left_fits = subst (λ z. LeftIs z (rest_kept w o)) (sym as_kept.left) (left_is w turns t o k f)

  pub begun_fits : BegunAt (counts_at w.state.form (set_aside w turns t).1) (rest_kept w o)
  begun_fits = subst (λ z. BegunAt z (rest_kept w o)) (sym (ap (counts_at w.state.form) as_kept.state)) (begun_at w turns t o f)

-- ---- a way

-- without some macros, places and definitions
module _ (f : List ScopedMacro → List ScopedMacro) (g : List UsePlace → List UsePlace) (h : BodyDefinitions → BodyDefinitions) where
  abbrev pub less : ScopedState → ScopedState
  less s = record s { macros = f s.macros; places = g s.places; definitions = h s.definitions }

  abbrev pub around_less : Around → Around
  around_less w = record { state = less w.state; known = w.known; notes = w.notes }

  abbrev pub EndedLess : ScopedState → ScopedState → Type 0
  EndedLess t s = bare_state (less t) ≡ bare_state s

  abbrev pub GivesLess : {X : Type 0} → ScopedState → ScopedState → X → X → Type 0
  GivesLess t s x y = EndedLess t s × (y ≡ x)

  -- each turn in it goes to the same as where the form is expanded, but for what it is without
  pub record Follows (turns : ℕ) (way : Way) : Type 0 where
    pub kept : (v w : Around) → bare_around v ≡ bare_around (around_less w) → (t : Tree Ident) (o : Option KeptForm) → FormBegins w t → PassKept v turns t o ↔ PassKept w turns t o
    pub rest_kept : (v w : Around) → bare_around v ≡ bare_around (around_less w) → (r : Result (Left Ident) Broken) (o : Option KeptParts) → LeftIs r o → RestBegins w r → RestKept v turns o ↔ RestKept w turns o
    pub begins : (v w : Around) → bare_around v ≡ bare_around (around_less w) → (t : Tree Ident) → FormBegins w t → FormBegins v t
    pub rest_begins : (v w : Around) → bare_around v ≡ bare_around (around_less w) → (r : Result (Left Ident) Broken) → RestBegins w r → RestBegins v r
    pub first : (v w : Around) → bare_around v ≡ bare_around (around_less w) → (t : Tree Ident) (o : Option KeptForm) → start v.state ≡ no_counts → FormBegins w t → PassKept v turns t o
        → PassLike (let q = set_aside w turns t in (q.0, less q.1)) (way.first v t o)
    pub second : (v w : Around) → bare_around v ≡ bare_around (around_less w) → (fs : List ℕ) (r : Result (Left Ident) Broken) (o : Option KeptParts) → LeftIs r o → BegunAt (start v.state) o → RestBegins w r → RestKept v turns o
        → Both EndedLess GivesLess (comes_to w turns fs r None) (way.second fs v r o)

  -- ---- along a unit

  module _ (turns : ℕ) (way : Way) (law : Follows turns way) (known : Known) (fs : List ℕ) where
    abbrev base : Way
    base = anew turns

    around_same : (form : ℕ) (ns ms : List (Note FramedIdent)) (s t : ScopedState) → EndedLess t s → map bare_note ns ≡ map bare_note ms → bare_around (around_form known form ns s) ≡ bare_around (around_less (around_form known form ms t))
    around_same form ns ms s t e d = λ j. record { state = record (sym e j) { form = form }; known = known; notes = d j }

    -- ---- second turns

    abbrev SecondsKept : Way → List LeftOrKept → ScopedState → Type 0
    SecondsKept z rs s = AtSeconds (IsRestKept turns) z known fs rs s

    abbrev SecondsBegin : Way → List LeftOrKept → ScopedState → Type 0
    SecondsBegin z rs s = AtSeconds RestCanBegin z known fs rs s

    record SecondsLike (rs : List LeftOrKept) (s t : ScopedState) : Type 0 where
      both : Both EndedLess GivesLess (seconds_by base known fs rs t) (seconds_by way known fs rs s)
      begins : SecondsBegin way rs s

    abbrev Rests : List LeftOrKept → Type 0
    Rests rs = AllOf RestIsOf rs

    -- of one form
    module _ (r : LeftOrKept) (s t : ScopedState) (e : EndedLess t s) (b : RestCanBegin (around_form known r.form [] t) r) (i : RestIsOf r) where
      abbrev v1 : Around
      v1 = around_form known r.form [] s

      abbrev w1 : Around
      w1 = around_form known r.form [] t

      abbrev same1 : bare_around v1 ≡ bare_around (around_less w1)
      same1 = around_same r.form [] [] s t e refl

      starts1 : start v1.state ≡ r.counts
      starts1 = ap (λ (z : Around). start z.state) same1 ∙ b.1

      begun1 : BegunAt (start v1.state) r.kept
      begun1 = go r.kept i.1
        where
          go : (o : Option KeptParts) → BegunAt r.counts o → BegunAt (start v1.state) o
          go None h = tt
          go (Some k) h = starts1 ∙ h

      begins1 : RestCanBegin v1 r
      begins1 = (law.rest_begins v1 w1 same1 r.left b.0, starts1)

      goes1 : IsRestKept turns v1 r → Both EndedLess GivesLess (comes_to w1 turns fs r.left None) (way.second fs v1 r.left r.kept)
      goes1 k = law.second v1 w1 same1 fs r.left r.kept i.0 begun1 b.0 k

    seconds_like : (rs : List LeftOrKept) (s t : ScopedState) → EndedLess t s → SecondsBegin base rs t → Rests rs → SecondsKept way rs s → SecondsLike rs s t
    seconds_like [] s t e b i k = record { both = both_go [] [] t s refl refl (e, refl); begins = tt }
    seconds_like (r ∷ rs) s t e b i k =
        let first = onwards_right (λ p u. SecondsKept way rs u) k.1 (onwards_left (λ p u. SecondsBegin base rs u) b.1 (goes1 r s t e b.0 i.0 k.0)) in
        record {
          both = both_then _ _ first (λ x y u u2 z.
              let a = z.1.1.1 in
              let c = ap (λ (q : ScopedState). (counted known).counted q) (sym z.1.1.0) in
              both_then _ _ (seconds_like rs u2 u z.1.1.0 z.1.0 i.1 z.0).both (λ xs ys u3 u4 q. both_go _ _ u3 u4 refl refl (q.0, (let d = q.1 in λ j. record { form = r.form; result = a j; counted = c j } ∷ d j))));
          begins = (begins1 r s t e b.0 i.0, right_onwards (λ p u. SecondsBegin way rs u) (λ u u2 x y z. (seconds_like rs u2 u z.1.1.0 z.1.0 i.1 z.0).begins) first);
        }

    -- what holds at the turns of the way, and what then holds where every form is expanded; and the other way round
    module _ (P Q : Around → LeftOrKept → Type 0) where
      seconds_with : ((v : Around) (r : LeftOrKept) → P v r → IsRestKept turns v r) → ((v w : Around) (r : LeftOrKept) → bare_around v ≡ bare_around (around_less w) → RestIsOf r → RestCanBegin w r → P v r → Q w r) → (rs : List LeftOrKept) (s t : ScopedState) → EndedLess t s
          → SecondsBegin base rs t → Rests rs → AtSeconds P way known fs rs s → AtSeconds Q base known fs rs t
      seconds_with kept f [] s t e b i k = tt
      seconds_with kept f (r ∷ rs) s t e b i k =
          let v = v1 r s t e b.0 i.0 in
          let first = onwards_right (λ p u. AtSeconds P way known fs rs u) k.1 (onwards_left (λ p u. SecondsBegin base rs u) b.1 (goes1 r s t e b.0 i.0 (kept v r k.0))) in
          (f v (w1 r s t e b.0 i.0) r (same1 r s t e b.0 i.0) i.0 b.0 k.0, left_onwards (λ p u. AtSeconds Q base known fs rs u) (λ u u2 x y z. seconds_with kept f rs u2 u z.1.1.0 z.1.0 i.1 z.0) first)

      seconds_back : ((v : Around) (r : LeftOrKept) → P v r → IsRestKept turns v r) → ((v w : Around) (r : LeftOrKept) → bare_around v ≡ bare_around (around_less w) → RestIsOf r → RestCanBegin w r → Q w r → P v r) → (rs : List LeftOrKept) (s t : ScopedState) → EndedLess t s
          → SecondsBegin base rs t → Rests rs → AtSeconds Q base known fs rs t → AtSeconds P way known fs rs s
      seconds_back kept f [] s t e b i k = tt
      seconds_back kept f (r ∷ rs) s t e b i k =
          let v = v1 r s t e b.0 i.0 in
          let here = f v (w1 r s t e b.0 i.0) r (same1 r s t e b.0 i.0) i.0 b.0 k.0 in
          let first = onwards_left (λ p u. AtSeconds Q base known fs rs u) k.1 (onwards_left (λ p u. SecondsBegin base rs u) b.1 (goes1 r s t e b.0 i.0 (kept v r here))) in
          (here, right_onwards (λ p u. AtSeconds P way known fs rs u) (λ u u2 x y z. seconds_back kept f rs u2 u z.1.1.0 z.1.0 i.1 z.0) first)

    -- ---- first turns

    abbrev FirstsKept : Way → List FormOrKept → List (Note FramedIdent) → ScopedState → Type 0
    FirstsKept z xs ns s = AtFirsts (IsKept turns) z known fs xs ns s

    abbrev FirstsBegin : Way → List FormOrKept → List (Note FramedIdent) → ScopedState → Type 0
    FirstsBegin z xs ns s = AtFirsts CanBegin z known fs xs ns s

    abbrev FirstsGive : ScopedState → ScopedState → List LeftOrKept → List LeftOrKept → Type 0
    FirstsGive u u2 x y = EndedLess u u2 × (y ≡ x) × Rests x

    record FirstsLike (xs : List FormOrKept) (ns ms : List (Note FramedIdent)) (s t : ScopedState) : Type 0 where
      both : Both EndedLess FirstsGive (firsts_by base known fs xs ms t) (firsts_by way known fs xs ns s)
      begins : FirstsBegin way xs ns s

    abbrev Fit : List FormOrKept → Type 0
    Fit xs = Each (λ (x : FormOrKept). FormFits x.kept) xs

    -- of one form
    abbrev PassGives : ScopedState → ScopedState → Pass Ident FramedIdent → Pass Ident FramedIdent → Type 0
    PassGives u u2 p q = EndedLess u u2 × (p.left ≡ q.left) × (map bare_note p.notes ≡ map bare_note q.notes)

    module _ (x : FormOrKept) (ns ms : List (Note FramedIdent)) (s t : ScopedState) (e : EndedLess t s) (d : map bare_note ns ≡ map bare_note ms) (b : CanBegin (around_form known x.form ms t) x) where
      abbrev v2 : Around
      v2 = around_form known x.form ns s

      abbrev w2 : Around
      w2 = around_form known x.form ms t

      abbrev same2 : bare_around v2 ≡ bare_around (around_less w2)
      same2 = around_same x.form ns ms s t e d

      new2 : start v2.state ≡ no_counts
      new2 = ap (λ (z : Around). start z.state) same2 ∙ b.1

      begins2 : CanBegin v2 x
      begins2 = (law.begins v2 w2 same2 x.tree b.0, new2)

      kept2 : IsKept turns v2 x ↔ IsKept turns w2 x
      kept2 = law.kept v2 w2 same2 x.tree x.kept b.0

      nodes2 : (q m : Pass Ident FramedIdent × ScopedState) → EndedLess q.1 m.1 → nodes_in (counted known) fs m.1 ≡ nodes_in (counted known) fs q.1
      nodes2 q m a = nodes_like known fs (less q.1) m.1 (sym a) ∙ nodes_less fs q.1
        where
          nodes_less : (fs : List ℕ) (u : ScopedState) → nodes_in (counted known) fs (less u) ≡ nodes_in (counted known) fs u
          nodes_less [] u = refl
          nodes_less (f ∷ fs) u = ap (λ m. u.nodes f + m) (nodes_less fs u)

      goes2 : IsKept turns v2 x → Both EndedLess PassGives (unless_over (counted known) fs (set_aside w2 turns x.tree)) (unless_over (counted known) fs (way.first v2 x.tree x.kept))
      goes2 k =
          let a = law.first v2 w2 same2 x.tree x.kept new2 b.0 k in let q = set_aside w2 turns x.tree in let m = way.first v2 x.tree x.kept in
          both_over (counted known) (counted known) fs q m (nodes2 q m a.state) a.state (a.state, a.left, a.notes)

      -- what is left of it
      left2 : (u u2 : ScopedState) (p q : Pass Ident FramedIdent) → PassGives u u2 p q → left_of x v2 q u2 ≡ left_of x w2 p u
      left2 u u2 p q z =
          let a = ap (counts_at x.form) (sym z.0) in let l = sym z.1 in let o = rest_same v2 w2 x.kept (ap (λ (y : Around). definition_count y.state.table y.state.unit) same2) in
          λ j. record { form = x.form; counts = a j; left = l j; kept = o j }

      fits2 : IsKept turns w2 x → FormFits x.kept → Onwards (λ p u. RestIsOf (left_of x w2 p u)) (unless_over (counted known) fs (set_aside w2 turns x.tree))
      fits2 k f = go (nat_lt max_total (nodes_in (counted known) fs (set_aside w2 turns x.tree).1))
        where
          go : (c : Bool) → Onwards (λ p u. RestIsOf (left_of x w2 p u)) (cond {A = Option (Pass Ident FramedIdent) × ScopedState} c (None, (set_aside w2 turns x.tree).1) (Some (set_aside w2 turns x.tree).0, (set_aside w2 turns x.tree).1))
          go true = tt
          go false = (left_fits w2 turns x.tree x.kept b.1 b.0 k f, begun_fits w2 turns x.tree x.kept b.1 b.0 k f)

    firsts_like : (xs : List FormOrKept) (ns ms : List (Note FramedIdent)) (s t : ScopedState) → EndedLess t s → map bare_note ns ≡ map bare_note ms → FirstsBegin base xs ms t → Fit xs → FirstsKept way xs ns s → FirstsLike xs ns ms s t
    firsts_like [] ns ms s t e d b f k = record { both = both_go [] [] t s refl refl (e, refl, tt); begins = tt }
    firsts_like (x ∷ xs) ns ms s t e d b f k =
        let there = (kept2 x ns ms s t e d b.0).0 k.0 in
        let first = onwards_right (λ q u. FirstsKept way xs q.notes u) k.1 (onwards_left (λ p u. FirstsBegin base xs p.notes u) b.1
        (onwards_left (λ p u. RestIsOf (left_of x (w2 x ns ms s t e d b.0) p u)) (fits2 x ns ms s t e d b.0 there f.0) (goes2 x ns ms s t e d b.0 k.0))) in
        record {
          both = both_then _ _ first (λ p q u u2 z.
              let g = z.1.1.1 in
              let l = left2 x ns ms s t e d b.0 u u2 p q g in
              both_then _ _ (firsts_like xs q.notes p.notes u2 u g.0 (sym g.2) z.1.0 f.1 z.0).both (λ ys zs u3 u4 y. both_go _ _ u3 u4 refl refl (y.0, (let c = y.1 in λ j. l j ∷ c j), (z.1.1.0, y.2))));
          begins = (begins2 x ns ms s t e d b.0, right_onwards (λ q u. FirstsBegin way xs q.notes u) (λ u u2 p q z. (firsts_like xs q.notes p.notes u2 u z.1.1.1.0 (sym z.1.1.1.2) z.1.0 f.1 z.0).begins) first);
        }

    module _ (P Q : Around → FormOrKept → Type 0) where
      firsts_with : ((v : Around) (x : FormOrKept) → P v x → IsKept turns v x) → ((v w : Around) (x : FormOrKept) → bare_around v ≡ bare_around (around_less w) → CanBegin w x → P v x → Q w x) → (xs : List FormOrKept) (ns ms : List (Note FramedIdent)) (s t : ScopedState) → EndedLess t s
          → map bare_note ns ≡ map bare_note ms → FirstsBegin base xs ms t → AtFirsts P way known fs xs ns s → AtFirsts Q base known fs xs ms t
      firsts_with kept f [] ns ms s t e d b k = tt
      firsts_with kept f (x ∷ xs) ns ms s t e d b k =
          let v = v2 x ns ms s t e d b.0 in
          let first = onwards_right (λ q u. AtFirsts P way known fs xs q.notes u) k.1 (onwards_left (λ p u. FirstsBegin base xs p.notes u) b.1 (goes2 x ns ms s t e d b.0 (kept v x k.0))) in
          (f v (w2 x ns ms s t e d b.0) x (same2 x ns ms s t e d b.0) b.0 k.0, left_onwards (λ p u. AtFirsts Q base known fs xs p.notes u) (λ u u2 p q z. firsts_with kept f xs q.notes p.notes u2 u z.1.1.0 (sym z.1.1.2) z.1.0 z.0) first)

      firsts_back : ((v : Around) (x : FormOrKept) → P v x → IsKept turns v x) → ((v w : Around) (x : FormOrKept) → bare_around v ≡ bare_around (around_less w) → CanBegin w x → Q w x → P v x) → (xs : List FormOrKept) (ns ms : List (Note FramedIdent)) (s t : ScopedState) → EndedLess t s
          → map bare_note ns ≡ map bare_note ms → FirstsBegin base xs ms t → AtFirsts Q base known fs xs ms t → AtFirsts P way known fs xs ns s
      firsts_back kept f [] ns ms s t e d b k = tt
      firsts_back kept f (x ∷ xs) ns ms s t e d b k =
          let v = v2 x ns ms s t e d b.0 in
          let here = f v (w2 x ns ms s t e d b.0) x (same2 x ns ms s t e d b.0) b.0 k.0 in
          let first = onwards_left (λ p u. AtFirsts Q base known fs xs p.notes u) k.1 (onwards_left (λ p u. FirstsBegin base xs p.notes u) b.1 (goes2 x ns ms s t e d b.0 (kept v x here))) in
          (here, right_onwards (λ q u. AtFirsts P way known fs xs q.notes u) (λ u u2 p q z. firsts_back kept f xs q.notes p.notes u2 u z.1.1.0 (sym z.1.1.2) z.1.0 z.0) first)

      -- so where it holds the form may be kept
      firsts_only : ((v : Around) (x : FormOrKept) → P v x → Q v x) → (xs : List FormOrKept) (ns : List (Note FramedIdent)) (s : ScopedState) → AtFirsts P way known fs xs ns s → AtFirsts Q way known fs xs ns s
      firsts_only f [] ns s k = tt
      firsts_only f (x ∷ xs) ns s k =
          let v = around_form known x.form ns s in
          (f v x k.0, onwards_map (λ q u. AtFirsts P way known fs xs q.notes u) (λ q u. AtFirsts Q way known fs xs q.notes u) (λ q u h. firsts_only f xs q.notes u h) (unless_over (counted known) fs (way.first v x.tree x.kept)) k.1)

  -- ---- the unit

  module _ (turns : ℕ) (way : Way) (law : Follows turns way) (known : Known) (xs : List FormOrKept) (s t : ScopedState) (e : EndedLess t s) (b : AllBegin (anew turns) known xs t) where
    abbrev fs : List ℕ
    fs = numbers_of xs

    abbrev gone : AllKept way turns known xs s → FirstsLike turns way law known fs xs [] [] s t
    gone k = firsts_like turns way law known fs xs [] [] s t e refl b.0 k.0 k.1.0

    abbrev Behind : ScopedState → ScopedState → List LeftOrKept → List LeftOrKept → Type 0
    Behind u u2 x y = AtSeconds RestCanBegin (anew turns) known fs x u × FirstsGive turns way law known fs u u2 x y

    firsts_behind : (k : AllKept way turns known xs s) → Both EndedLess Behind (firsts_by (anew turns) known fs xs [] t) (firsts_by way known fs xs [] s)
    firsts_behind k = onwards_left (λ x u. AtSeconds RestCanBegin (anew turns) known fs x u) b.1 (gone k).both

    -- the first side's list for the second's
    rests : (x y : List LeftOrKept) (u u2 : ScopedState) → AtSeconds (IsRestKept turns) way known fs y u2 → Behind u u2 x y → SecondsLike turns way law known fs x u2 u
    rests x y u u2 k z = seconds_like turns way law known fs x u2 u z.1.0 z.0 z.1.2 (subst (λ (l : List LeftOrKept). AtSeconds (IsRestKept turns) way known fs l u2) z.1.1 k)

    pub same_unit : AllKept way turns known xs s → Both EndedLess GivesLess (unit_by (anew turns) known xs t) (unit_by way known xs s)
    same_unit k =
        both_then (seconds_by (anew turns) known fs) (seconds_by way known fs) (onwards_right (λ y u. AtSeconds (IsRestKept turns) way known fs y u) k.1.1 (firsts_behind k)) (λ x y u u2 z.
        both_at refl (ap (λ (l : List LeftOrKept). seconds_by way known fs l u2) z.1.1.1) (rests x y u u2 z.0 z.1).both)

    pub all_begin : AllKept way turns known xs s → AllBegin way known xs s
    all_begin k = (
      (gone k).begins,
      right_onwards (λ y u. AtSeconds RestCanBegin way known fs y u)
          (λ u u2 x y z. subst (λ (l : List LeftOrKept). AtSeconds RestCanBegin way known fs l u2) (sym z.1.1.1) (rests x y u u2 z.0 z.1).begins) (onwards_right (λ y u. AtSeconds (IsRestKept turns) way known fs y u) k.1.1 (firsts_behind k)),
    )

    -- what holds at each turn of the way, and where every form is expanded
    module _ (P Q : Around → FormOrKept → Type 0) (P2 Q2 : Around → LeftOrKept → Type 0) (kept : (v : Around) (x : FormOrKept) → P v x → IsKept turns v x) (kept2 : (v : Around) (r : LeftOrKept) → P2 v r → IsRestKept turns v r) where
      pub turns_in : ((v w : Around) (x : FormOrKept) → bare_around v ≡ bare_around (around_less w) → CanBegin w x → P v x → Q w x) → ((v w : Around) (r : LeftOrKept) → bare_around v ≡ bare_around (around_less w) → RestIsOf r → RestCanBegin w r → P2 v r → Q2 w r)
          → Each (λ (x : FormOrKept). FormFits x.kept) xs → AtTurns P P2 way known xs s → AtTurns Q Q2 (anew turns) known xs t
      turns_in f f2 fit k =
          let here = firsts_only turns way law known fs P (IsKept turns) kept xs [] s k.0 in
          let like = firsts_like turns way law known fs xs [] [] s t e refl b.0 fit here in (
            firsts_with turns way law known fs P Q kept f xs [] [] s t e refl b.0 k.0,
            left_onwards (λ x u. AtSeconds Q2 (anew turns) known fs x u)
                (λ u u2 x y z. seconds_with turns way law known fs P2 Q2 kept2 f2 x u2 u z.1.1.0 z.1.0 z.1.1.2 (subst (λ (l : List LeftOrKept). AtSeconds P2 way known fs l u2) z.1.1.1 z.0))
                (onwards_right (λ y u. AtSeconds P2 way known fs y u) k.1 (onwards_left (λ x u. AtSeconds RestCanBegin (anew turns) known fs x u) b.1 like.both)),
          )

      pub turns_out : ((v w : Around) (x : FormOrKept) → bare_around v ≡ bare_around (around_less w) → CanBegin w x → Q w x → P v x) → ((v w : Around) (r : LeftOrKept) → bare_around v ≡ bare_around (around_less w) → RestIsOf r → RestCanBegin w r → Q2 w r → P2 v r)
          → Each (λ (x : FormOrKept). FormFits x.kept) xs → AtTurns Q Q2 (anew turns) known xs t → AtTurns P P2 way known xs s
      turns_out f f2 fit k =
          let first = firsts_back turns way law known fs P Q kept f xs [] [] s t e refl b.0 k.0 in
          let like = firsts_like turns way law known fs xs [] [] s t e refl b.0 fit (firsts_only turns way law known fs P (IsKept turns) kept xs [] s first) in (
            first,
            right_onwards (λ y u. AtSeconds P2 way known fs y u)
                (λ u u2 x y z. subst (λ (l : List LeftOrKept). AtSeconds P2 way known fs l u2) (sym z.1.1.1) (seconds_back turns way law known fs P2 Q2 kept2 f2 x u2 u z.1.1.0 z.1.0 z.1.1.2 z.0))
                (onwards_left (λ x u. AtSeconds Q2 (anew turns) known fs x u) k.1 (onwards_left (λ x u. AtSeconds RestCanBegin (anew turns) known fs x u) b.1 like.both)),
          )

    pub all_kept : AllKept way turns known xs s ↔ AllKept (anew turns) turns known xs t
    all_kept =
        let P = IsKept turns in let P2 = IsRestKept turns in (
          λ k. (k.0, turns_in P P P2 P2 (λ v x h. h) (λ v r h. h) (λ v w x same c h. (law.kept v w same x.tree x.kept c.0).0 h) (λ v w r same i c h. (law.rest_kept v w same r.left r.kept i.0 c.0).0 h) k.0 k.1),
          λ k. (k.0, turns_out P P P2 P2 (λ v x h. h) (λ v r h. h) (λ v w x same c h. (law.kept v w same x.tree x.kept c.0).1 h) (λ v w r same i c h. (law.rest_kept v w same r.left r.kept i.0 c.0).1 h) k.0 k.1),
        )
