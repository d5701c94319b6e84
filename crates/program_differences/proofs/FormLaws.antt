-- Marks one after another, and the locals that binders bind.
use Rattle.std.proofs.Common.{◌≡◌, ℕ, zero, suc, ◌+◌, ◌<◌, ◌≤◌, List, [], ◌∷◌, ◌++◌, map, drop, length, get_or, true, refl, sym, ap, ◌∙◌, subst, arith, append_assoc}
use Rattle.std.proofs.lemmas.List.{append-nil}
use Rattle.scheme_model.specs.Identifiers.{Number}
use Rattle.scheme_model.specs.Cores as model
use Rattle.scheme_model.specs.Substitution.{Table}
use Rattle.rename_model.specs.Walks.{Point, local_bound, locals_in}
use Rattle.syntax_tree.specs.Names.{Names}
use Rattle.syntax_tree.specs.declared.trees.Work.{Work}
use Rattle.core_tree.specs.Names.{AllMatch, IsBound, IsBinder}
use Rattle.core_tree.specs.Levels.{BindsAs, AllBind}
use Rattle.core_tree.specs.declared.cores.Binder.{Binder}
use Rattle.program_leaves.specs.Adds.{Adds}
use Rattle.program_leaves.proofs.AddLaws.{adds_none, adds_both, adds_same}
use Rattle.alpha_equal.specs.declared.marks.Mark.{Mark}
use Rattle.alpha_equal.specs.declared.points.Point as code
use Rattle.alpha_equal.specs.Points.{locals_of, IsPoint}
use Rattle.alpha_equal.specs.Marks.{mark_of, IsMark, AreMarks}

-- ---- locals

one_local : (unit form n : ℕ) (b : model.Bound) → IsBound unit form n b → BindsAs true b → local_bound b ≡ record { unit = unit; form = form; count = n } ∷ []
one_local unit form n (model.LocalNumber v) is binds = ap (λ (w : Number). w ∷ []) is
one_local unit form n (model.Definition u d) is binds = absurd binds

pub locals_are : (names : Names) (unit form : ℕ) (bs : List Binder) (ms : List model.Binder) → AllMatch (IsBinder names unit form) bs ms → AllBind true ms → locals_in ms ≡ locals_of unit form bs
locals_are names unit form [] [] h b = refl
locals_are names unit form [] (m ∷ ms) h b = absurd h
locals_are names unit form (x ∷ xs) [] h b = absurd h
locals_are names unit form (x ∷ xs) (m ∷ ms) h b =
    ap (λ (q : List Number). q ++ locals_in ms) (one_local unit form x.number m.bound h.0.number b.0) ∙ ap (λ (q : List Number). record { unit = unit; form = form; count = x.number } ∷ q) (locals_are names unit form xs ms h.1 b.1)

-- ---- marks

module _ (work : Work) (table : Table) (unit form : ℕ) where
  pub mark_at : (xs : List Mark) (ps : List Point) (k : ℕ) (d : Mark) → AreMarks work table unit form (map mark_of xs) ps → k < length xs → (here : List Point) × IsMark work table unit form (mark_of (get_or xs k d)) here
  mark_at [] ps k d h lt = absurd (omega (arith, lt))
  mark_at (x ∷ xs) ps zero d h lt = (h.0, h.3)
  mark_at (x ∷ xs) ps (suc k) d h lt = mark_at xs h.1 k d h.4 (omega (arith, lt))

  -- the next mark, and those behind it
  pub record Next (xs : List Mark) (k : ℕ) (d : Mark) (ps : List Point) : Type 0 where
    pub front : List Point
    pub rest : List Point
    pub parted : ps ≡ front ++ rest
    pub is : IsMark work table unit form (mark_of (get_or xs k d)) front
    pub left : AreMarks work table unit form (map mark_of (drop (k + 1) xs)) rest

  pub mark_next : (xs : List Mark) (ps : List Point) (k : ℕ) (d : Mark) → AreMarks work table unit form (map mark_of (drop k xs)) ps → k < length xs → Next xs k d ps
  mark_next [] ps k d h lt = absurd (omega (arith, lt))
  mark_next (x ∷ xs) ps zero d h lt = record { front = h.0; rest = h.1; parted = h.2; is = h.3; left = h.4 }
  mark_next (x ∷ xs) ps (suc k) d h lt =
      let r = mark_next xs ps k d h (omega (arith, lt)) in
      let next : suc (k + 1) ≡ suc k + 1 = omega arith in
      record { front = r.front; rest = r.rest; parted = r.parted; is = r.is; left = subst (λ (n : ℕ). AreMarks work table unit form (map mark_of (drop n (x ∷ xs))) r.rest) next r.left }

  -- the points of the marks up to a place
  pub record MarkedTo (old new : List code.Point) (xs : List Mark) (ps : List Point) (k : ℕ) : Type 0 where
    pub so_far : List Point
    pub rest : List Point
    pub whole : so_far ++ rest ≡ ps
    pub adds : Adds (IsPoint work.symbols unit form) old new so_far
    pub left : AreMarks work table unit form (map mark_of (drop k xs)) rest

  pub marked_none : (old : List code.Point) (xs : List Mark) (ps : List Point) → AreMarks work table unit form (map mark_of xs) ps → MarkedTo old old xs ps 0
  marked_none old xs ps h = record { so_far = []; rest = ps; whole = refl; adds = adds_none (IsPoint work.symbols unit form) old; left = h }

  pub marked_more : (old mid new : List code.Point) (xs : List Mark) (ps : List Point) (k : ℕ) (front rest : List Point) (m : MarkedTo old mid xs ps k) → m.rest ≡ front ++ rest → AreMarks work table unit form (map mark_of (drop (k + 1) xs)) rest →
      Adds (IsPoint work.symbols unit form) mid new front → MarkedTo old new xs ps (k + 1)
  marked_more old mid new xs ps k front rest m parted left h = record {
    so_far = m.so_far ++ front;
    rest = rest;
    whole = append_assoc m.so_far front rest ∙ ap (λ (q : List Point). m.so_far ++ q) (sym parted) ∙ m.whole;
    adds = adds_both (IsPoint work.symbols unit form) old mid new m.so_far front m.adds h;
    left = left;
  }

  none_left : (xs : List Mark) (k : ℕ) (ps : List Point) → AreMarks work table unit form (map mark_of (drop k xs)) ps → length xs ≤ k → ps ≡ []
  none_left [] zero ps h le = h
  none_left [] (suc k) ps h le = h
  none_left (x ∷ xs) zero ps h le = absurd (omega (arith, le))
  none_left (x ∷ xs) (suc k) ps h le = none_left xs k ps h (omega (arith, le))

  pub marked_all : (old new : List code.Point) (xs : List Mark) (ps : List Point) (k : ℕ) → MarkedTo old new xs ps k → length xs ≤ k → Adds (IsPoint work.symbols unit form) old new ps
  marked_all old new xs ps k m le =
      adds_same (IsPoint work.symbols unit form) old new m.so_far ps (sym (append-nil m.so_far) ∙ ap (λ (q : List Point). m.so_far ++ q) (sym (none_left xs k m.rest m.left le)) ∙ m.whole) m.adds
