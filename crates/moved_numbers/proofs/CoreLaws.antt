-- Cores stand under other numbers for what they stood for.
use Rattle.std.proofs.Common.{◌≡◌, ℕ, List, [], ◌∷◌, map, Bool, refl, sym, ap, ◌∙◌, subst, Vec}
use Rattle.std.specs.Global.{Box}
use Rattle.std.specs.declared.alloc.Global.{Global}
use Rattle.scheme_model.specs.Trees.{atom}
use Rattle.scheme_model.specs.Cores as model
use Rattle.syntax_tree.specs.declared.trees.nodes.Tree as number
use Rattle.core_tree.specs.Names.{AllMatch, IsBinder, IsMacro, IsField}
use Rattle.core_tree.specs.Cores.{CoreStands, CoresStand, ClausesStand, PartsStand, PartStands}
use Rattle.core_tree.specs.declared.cores.Binder.{Binder}
use Rattle.core_tree.specs.declared.cores.Target.{Target}
use Rattle.core_tree.specs.declared.cores.FieldUse.{FieldUse}
use Rattle.core_tree.specs.declared.cores.MacroDef.{MacroDef}
use Rattle.core_tree.specs.declared.cores.Core.{Core}
use Rattle.core_tree.specs.declared.cores.Core.TheVariants as cores
use Rattle.core_tree.specs.declared.cores.Core.TheOpen.{Core-F, CorePart-F}
use Rattle.core_tree.specs.declared.cores.Core.TheViews.{out-Core, out-CorePart, out-roll-Core, out-roll-CorePart}
use Rattle.core_tree.specs.declared.cores.Clause.{Clause, out-Clause}
use Rattle.core_tree.specs.declared.cores.CorePart.{CorePart}
use Rattle.core_tree.specs.declared.cores.CorePart.TheVariants as parts
use Rattle.renumbering_laws.specs.Moving.{move_tree}
use Rattle.renumbering_laws.specs.Renumbering as new
use Rattle.renumbering_laws.specs.Renumbering.{Renumbering, place, change, places_of, core_as, cores_as, clauses_as, parts_as, part_as}
use Rattle.moves.proofs.StandLaws.{stands_there}
use Rattle.moved_numbers.specs.Leaves.{binder_as, target_as, field_as}
use Rattle.moved_numbers.specs.Standing.{StandsOn, ClauseStands, clause_as}
use Rattle.moved_numbers.proofs.TreeLaws.{symbols_there, hole_places_there, holes_there}
use Rattle.moved_numbers.proofs.Fronts.{each_there}
use Rattle.moved_numbers.proofs.LeafLaws.{KeepsDefinitions, field_there, binder_there, binders_there, target_there}

module _ (r : Renumbering) where
  -- ---- what one becomes, one level of it

  abbrev pub CoreOn : Core → Core → Type 0
  CoreOn c d = StandsOn r CoreStands (core_as r) c d

  abbrev pub ClauseOn : Clause → Clause → Type 0
  ClauseOn x y = StandsOn r ClauseStands (clause_as r) x y

  abbrev pub PartOn : CorePart → CorePart → Type 0
  PartOn p q = StandsOn r PartStands (part_as r) p q

  abbrev pub CoresOn : Vec Core Global → Vec Core Global → Type 0
  CoresOn xs ys = StandsOn r CoresStand (cores_as r) xs.items ys.items

  abbrev pub ClausesOn : Vec Clause Global → Vec Clause Global → Type 0
  ClausesOn xs ys = StandsOn r ClausesStand (clauses_as r) xs.items ys.items

  abbrev pub PartsOn : Vec CorePart Global → Vec CorePart Global → Type 0
  PartsOn xs ys = StandsOn r PartsStand (parts_as r) xs.items ys.items

  abbrev pub MacrosOn : Vec MacroDef Global → Vec MacroDef Global → Type 0
  MacrosOn xs ys = StandsOn r (λ work unit form. AllMatch (IsMacro work unit form)) (map (new.macro_of r)) xs.items ys.items

  abbrev pub CoreMoves : Core-F Core CorePart Clause → Core → Type 0
  CoreMoves (Core-F.Ref t) d = d ≡ cores.Ref (target_as r t)
  CoreMoves (Core-F.Const n) d = d ≡ cores.Const n
  CoreMoves (Core-F.Quote n) d = d ≡ cores.Quote n
  CoreMoves (Core-F.Quasi n places xs) d = (ys : Vec Core Global) × (d ≡ cores.Quasi n places ys) × CoresOn xs ys
  CoreMoves (Core-F.Lambda x) d = (y : Clause) × (d ≡ cores.Lambda y) × ClauseOn x y
  CoreMoves (Core-F.CaseLambda xs) d = (ys : Vec Clause Global) × (d ≡ cores.CaseLambda ys) × ClausesOn xs ys
  CoreMoves (Core-F.If xs) d = (ys : Vec Core Global) × (d ≡ cores.If ys) × CoresOn xs ys
  CoreMoves (Core-F.Set t c) d = (e : Box Core) × (d ≡ cores.Set (target_as r t) e) × CoreOn c.value e.value
  CoreMoves (Core-F.Call xs) d = (ys : Vec Core Global) × (d ≡ cores.Call ys) × CoresOn xs ys
  CoreMoves (Core-F.Body xs) d = (ys : Vec CorePart Global) × (d ≡ cores.Body ys) × PartsOn xs ys
  CoreMoves (Core-F.LetSyntax ds c) d = (es : Vec MacroDef Global) × (e : Box Core) × (d ≡ cores.LetSyntax es e) × MacrosOn ds es × CoreOn c.value e.value

  abbrev pub PartMoves : CorePart-F Core CorePart Clause → CorePart → Type 0
  PartMoves (CorePart-F.Expression c) q = (d : Core) × (q ≡ parts.Expression d) × CoreOn c d
  PartMoves (CorePart-F.Define b c) q = (d : Core) × (q ≡ parts.Define (binder_as r b) d) × CoreOn c d
  PartMoves (CorePart-F.Values bs dotted c) q = (cs : Vec Binder Global) × (d : Core) × (q ≡ parts.Values cs dotted d) × (cs.items ≡ map (binder_as r) bs.items) × CoreOn c d
  PartMoves (CorePart-F.Fields bs fs ms us) q =
      (cs : Vec Binder Global) × (gs : Vec Binder Global) × (vs : Vec FieldUse Global) × (q ≡ parts.Fields cs gs ms vs)
      × (cs.items ≡ map (binder_as r) bs.items) × (gs.items ≡ map (binder_as r) fs.items) × (vs.items ≡ map (field_as r) us.items)
  PartMoves (CorePart-F.Syntax x) q = (y : MacroDef) × (q ≡ parts.Syntax y) × StandsOn r IsMacro (new.macro_of r) x y

  abbrev Opened : Type 0
  Opened = Core-F Core CorePart Clause

  abbrev OpenedPart : Type 0
  OpenedPart = CorePart-F Core CorePart Clause

  pub opens : (s : Opened) (c d : Core) → out-Core c ≡ s → CoreMoves s d → CoreMoves (out-Core c) d
  opens s c d e h = subst (λ (x : Opened). CoreMoves x d) (sym e) h

  pub part_opens : (s : OpenedPart) (p q : CorePart) → out-CorePart p ≡ s → PartMoves s q → PartMoves (out-CorePart p) q
  part_opens s p q e h = subst (λ (x : OpenedPart). PartMoves x q) (sym e) h

  -- ---- each core

  module _ (keeps : KeepsDefinitions r) where
    moved : (s : Opened) (c d : Core) → out-Core c ≡ s → CoreMoves (out-Core c) d → CoreMoves s d
    moved s c d e h = subst (λ (x : Opened). CoreMoves x d) e h

    pub core_on : (c d : Core) → CoreMoves (out-Core c) d → CoreOn c d
    core_on c d m old now unit form (model.Ref t) moves h =
        let e = moved (Core-F.Ref h.0) c d (ap out-Core (h.1 ∙ sym (cores.rolls-Ref h.0)) ∙ out-roll-Core (Core-F.Ref h.0)) m in
        (target_as r h.0, e, target_there r keeps old now moves unit form h.0 t h.2)
    core_on c d m old now unit form (model.Const a) moves h =
        let e = moved (Core-F.Const h.0) c d (ap out-Core (h.2 ∙ sym (cores.rolls-Const h.0)) ∙ out-roll-Core (Core-F.Const h.0)) m in
        (h.0, place r h.1, e, stands_there r old.trees.nodes now.trees.nodes old.symbols now.symbols moves.trees.nodes moves.names (atom a h.1) h.0.number h.3)
    core_on c d m old now unit form (model.Quote s) moves h =
        let e = moved (Core-F.Quote h.0) c d (ap out-Core (h.2 ∙ sym (cores.rolls-Quote h.0)) ∙ out-roll-Core (Core-F.Quote h.0)) m in
        (h.0, move_tree (change r) h.1, e, stands_there r old.trees.nodes now.trees.nodes old.symbols now.symbols moves.trees.nodes moves.names h.1 h.0.number h.3, symbols_there r h.1 ∙ ap (move_tree (places_of r)) h.4)
    core_on c d m old now unit form (model.Quasi q ms) moves h =
        let e = moved (Core-F.Quasi h.0 h.1 h.2) c d (ap out-Core (h.3 ∙ sym (cores.rolls-Quasi h.0 h.1 h.2)) ∙ out-roll-Core (Core-F.Quasi h.0 h.1 h.2)) m in
        let datum = h.4 in (
          h.0,
          h.1,
          e.0,
          e.1,
          (move_tree (change r) datum.0, stands_there r old.trees.nodes now.trees.nodes old.symbols now.symbols moves.trees.nodes moves.names datum.0 h.0.number datum.1, holes_there r datum.0 q datum.2, datum.3 ∙ sym (hole_places_there r q)),
          e.2 old now unit form ms moves h.5,
        )
    core_on c d m old now unit form (model.Lambda bs b) moves h =
        let e = moved (Core-F.Lambda h.0) c d (ap out-Core (h.2 ∙ sym (cores.rolls-Lambda h.0)) ∙ out-roll-Core (Core-F.Lambda h.0)) m in
        let s = e.2 old now unit form (bs, b) moves (h.1, h.3, h.4) in
        (e.0, s.0, e.1, s.1, s.2)
    core_on c d m old now unit form (model.CaseLambda ms) moves h =
        let e = moved (Core-F.CaseLambda h.0) c d (ap out-Core (h.1 ∙ sym (cores.rolls-CaseLambda h.0)) ∙ out-roll-Core (Core-F.CaseLambda h.0)) m in
        (e.0, e.1, e.2 old now unit form ms moves h.2)
    core_on c d m old now unit form (model.If ms) moves h =
        let e = moved (Core-F.If h.0) c d (ap out-Core (h.1 ∙ sym (cores.rolls-If h.0)) ∙ out-roll-Core (Core-F.If h.0)) m in
        (e.0, e.1, e.2 old now unit form ms moves h.2)
    core_on c d m old now unit form (model.Set t b) moves h =
        let e = moved (Core-F.Set h.0 h.1) c d (ap out-Core (h.2 ∙ sym (cores.rolls-Set h.0 h.1)) ∙ out-roll-Core (Core-F.Set h.0 h.1)) m in
        (target_as r h.0, e.0, e.1, target_there r keeps old now moves unit form h.0 t h.3, e.2 old now unit form b moves h.4)
    core_on c d m old now unit form (model.Call ms) moves h =
        let e = moved (Core-F.Call h.0) c d (ap out-Core (h.1 ∙ sym (cores.rolls-Call h.0)) ∙ out-roll-Core (Core-F.Call h.0)) m in
        (e.0, e.1, e.2 old now unit form ms moves h.2)
    core_on c d m old now unit form (model.Body ms) moves h =
        let e = moved (Core-F.Body h.0) c d (ap out-Core (h.1 ∙ sym (cores.rolls-Body h.0)) ∙ out-roll-Core (Core-F.Body h.0)) m in
        (e.0, e.1, e.2 old now unit form ms moves h.2)
    core_on c d m old now unit form (model.LetSyntax ds b) moves h =
        let e = moved (Core-F.LetSyntax h.0 h.1) c d (ap out-Core (h.2 ∙ sym (cores.rolls-LetSyntax h.0 h.1)) ∙ out-roll-Core (Core-F.LetSyntax h.0 h.1)) m in
        (e.0, e.1, e.2, e.3 old now unit form ds moves h.3, e.4 old now unit form b moves h.4)

    -- ---- one by one, by what it was

    pub ref_on : (c : Core) (x y : Target) → c ≡ cores.Ref x → y ≡ target_as r x → CoreOn c (cores.Ref y)
    ref_on c x y is h0 = core_on c (cores.Ref y) (opens (Core-F.Ref x) c (cores.Ref y) (ap out-Core (is ∙ sym (cores.rolls-Ref x)) ∙ out-roll-Core (Core-F.Ref x)) (ap cores.Ref h0))

    pub const_on : (c : Core) (n : number.Tree) → c ≡ cores.Const n → CoreOn c c
    const_on c n is = core_on c c (opens (Core-F.Const n) c c (ap out-Core (is ∙ sym (cores.rolls-Const n)) ∙ out-roll-Core (Core-F.Const n)) is)

    pub quote_on : (c : Core) (n : number.Tree) → c ≡ cores.Quote n → CoreOn c c
    quote_on c n is = core_on c c (opens (Core-F.Quote n) c c (ap out-Core (is ∙ sym (cores.rolls-Quote n)) ∙ out-roll-Core (Core-F.Quote n)) is)

    pub quasi_on : (c : Core) (n : number.Tree) (places : Vec ℕ Global) (xs ys : Vec Core Global) → c ≡ cores.Quasi n places xs → CoresOn xs ys → CoreOn c (cores.Quasi n places ys)
    quasi_on c n places xs ys is h0 = core_on c (cores.Quasi n places ys) (opens (Core-F.Quasi n places xs) c (cores.Quasi n places ys) (ap out-Core (is ∙ sym (cores.rolls-Quasi n places xs)) ∙ out-roll-Core (Core-F.Quasi n places xs)) (ys, refl, h0))

    pub lambda_on : (c : Core) (x y : Clause) → c ≡ cores.Lambda x → ClauseOn x y → CoreOn c (cores.Lambda y)
    lambda_on c x y is h0 = core_on c (cores.Lambda y) (opens (Core-F.Lambda x) c (cores.Lambda y) (ap out-Core (is ∙ sym (cores.rolls-Lambda x)) ∙ out-roll-Core (Core-F.Lambda x)) (y, refl, h0))

    pub case_lambda_on : (c : Core) (xs ys : Vec Clause Global) → c ≡ cores.CaseLambda xs → ClausesOn xs ys → CoreOn c (cores.CaseLambda ys)
    case_lambda_on c xs ys is h0 = core_on c (cores.CaseLambda ys) (opens (Core-F.CaseLambda xs) c (cores.CaseLambda ys) (ap out-Core (is ∙ sym (cores.rolls-CaseLambda xs)) ∙ out-roll-Core (Core-F.CaseLambda xs)) (ys, refl, h0))

    pub if_on : (c : Core) (xs ys : Vec Core Global) → c ≡ cores.If xs → CoresOn xs ys → CoreOn c (cores.If ys)
    if_on c xs ys is h0 = core_on c (cores.If ys) (opens (Core-F.If xs) c (cores.If ys) (ap out-Core (is ∙ sym (cores.rolls-If xs)) ∙ out-roll-Core (Core-F.If xs)) (ys, refl, h0))

    pub set_on : (c : Core) (x y : Target) (b e : Box Core) → c ≡ cores.Set x b → y ≡ target_as r x → CoreOn b.value e.value → CoreOn c (cores.Set y e)
    set_on c x y b e is h0 h1 = core_on c (cores.Set y e) (opens (Core-F.Set x b) c (cores.Set y e) (ap out-Core (is ∙ sym (cores.rolls-Set x b)) ∙ out-roll-Core (Core-F.Set x b)) (e, ap (λ (t : Target). cores.Set t e) h0, h1))

    pub call_on : (c : Core) (xs ys : Vec Core Global) → c ≡ cores.Call xs → CoresOn xs ys → CoreOn c (cores.Call ys)
    call_on c xs ys is h0 = core_on c (cores.Call ys) (opens (Core-F.Call xs) c (cores.Call ys) (ap out-Core (is ∙ sym (cores.rolls-Call xs)) ∙ out-roll-Core (Core-F.Call xs)) (ys, refl, h0))

    pub body_on : (c : Core) (xs ys : Vec CorePart Global) → c ≡ cores.Body xs → PartsOn xs ys → CoreOn c (cores.Body ys)
    body_on c xs ys is h0 = core_on c (cores.Body ys) (opens (Core-F.Body xs) c (cores.Body ys) (ap out-Core (is ∙ sym (cores.rolls-Body xs)) ∙ out-roll-Core (Core-F.Body xs)) (ys, refl, h0))

    pub let_syntax_on : (c : Core) (ds es : Vec MacroDef Global) (b e : Box Core) → c ≡ cores.LetSyntax ds b → MacrosOn ds es → CoreOn b.value e.value → CoreOn c (cores.LetSyntax es e)
    let_syntax_on c ds es b e is h0 h1 = core_on c (cores.LetSyntax es e) (opens (Core-F.LetSyntax ds b) c (cores.LetSyntax es e) (ap out-Core (is ∙ sym (cores.rolls-LetSyntax ds b)) ∙ out-roll-Core (Core-F.LetSyntax ds b)) (es, e, refl, h0, h1))

    -- ---- clauses and parts

    pub clause_on : (x y : Clause) (bs cs : Vec Binder Global) (dotted : Bool) (c d : Box Core) → out-Clause x ≡ record { binders = bs; dotted = dotted; body = c } → out-Clause y ≡ record { binders = cs; dotted = dotted; body = d } →
        cs.items ≡ map (binder_as r) bs.items → CoreOn c.value d.value → ClauseOn x y
    clause_on x y bs cs dotted c d is_x is_y names body old now unit form m moves h =
        let p = h.1 in
        let same = sym p.2 ∙ is_x in
        let same_names : p.0 ≡ bs = λ j. (same j).binders in
        let same_rest : p.1 ≡ dotted = λ j. (same j).dotted in
        let same_body : h.0 ≡ c = λ j. (same j).body in
        let bound = binders_there r keeps old now moves unit form bs.items m.0.names (subst (λ (v : Vec Binder Global). AllMatch (IsBinder old.symbols unit form) v.items m.0.names) same_names p.3.0) in (
          d,
          (cs, dotted, is_y, (subst (λ (l : List Binder). AllMatch (IsBinder now.symbols (r.unit unit) (r.form unit form)) l (map (new.binder r) m.0.names)) (sym names) bound, sym same_rest ∙ p.3.1)),
          body old now unit form m.1 moves (subst (λ (b : Box Core). CoreStands old unit form b.value m.1) same_body h.2),
        )

    part_moved : (s : OpenedPart) (p q : CorePart) → out-CorePart p ≡ s → PartMoves (out-CorePart p) q → PartMoves s q
    part_moved s p q e h = subst (λ (x : OpenedPart). PartMoves x q) e h

    pub part_on : (p q : CorePart) → PartMoves (out-CorePart p) q → PartOn p q
    part_on p q m old now unit form (model.Expression c) moves h =
        let e = part_moved (CorePart-F.Expression h.0) p q (ap out-CorePart (h.1 ∙ sym (parts.rolls-Expression h.0)) ∙ out-roll-CorePart (CorePart-F.Expression h.0)) m in
        (e.0, e.1, e.2 old now unit form c moves h.2)
    part_on p q m old now unit form (model.Define b c) moves h =
        let e = part_moved (CorePart-F.Define h.0 h.1) p q (ap out-CorePart (h.2 ∙ sym (parts.rolls-Define h.0 h.1)) ∙ out-roll-CorePart (CorePart-F.Define h.0 h.1)) m in
        (binder_as r h.0, e.0, e.1, binder_there r keeps old now moves unit form h.0 b h.3, e.2 old now unit form c moves h.4)
    part_on p q m old now unit form (model.Values bs c) moves h =
        let e = part_moved (CorePart-F.Values h.0 h.1 h.2) p q (ap out-CorePart (h.3 ∙ sym (parts.rolls-Values h.0 h.1 h.2)) ∙ out-roll-CorePart (CorePart-F.Values h.0 h.1 h.2)) m in
        let bound = binders_there r keeps old now moves unit form h.0.items bs.names h.4.0 in
        (e.0, h.1, e.1, e.2, (subst (λ (l : List Binder). AllMatch (IsBinder now.symbols (r.unit unit) (r.form unit form)) l (map (new.binder r) bs.names)) (sym e.3) bound, h.4.1), e.4 old now unit form c moves h.5)
    part_on p q m old now unit form (model.Fields t) moves h =
        let e = part_moved (CorePart-F.Fields h.0 h.1 h.2 h.3) p q (ap out-CorePart (h.4 ∙ sym (parts.rolls-Fields h.0 h.1 h.2 h.3)) ∙ out-roll-CorePart (CorePart-F.Fields h.0 h.1 h.2 h.3)) m in
        let there = λ (bs : List Binder) (ms : List model.Binder) (l : List Binder) (is : l ≡ map (binder_as r) bs) (k : AllMatch (IsBinder old.symbols unit form) bs ms).
        subst (λ (x : List Binder). AllMatch (IsBinder now.symbols (r.unit unit) (r.form unit form)) x (map (new.binder r) ms)) (sym is) (binders_there r keeps old now moves unit form bs ms k) in (
          e.0,
          e.1,
          h.2,
          e.2,
          e.3,
          there h.0.items t.binders e.0.items e.4 h.5,
          there h.1.items t.fields e.1.items e.5 h.6,
          h.7,
          subst (λ (l : List FieldUse). AllMatch IsField l (map (new.field_use r) t.used)) (sym e.6) (each_there IsField IsField (field_as r) (new.field_use r) (field_there r) h.3.items t.used h.8),
        )
    part_on p q m old now unit form (model.Syntax x) moves h =
        let e = part_moved (CorePart-F.Syntax h.0) p q (ap out-CorePart (h.1 ∙ sym (parts.rolls-Syntax h.0)) ∙ out-roll-CorePart (CorePart-F.Syntax h.0)) m in
        (e.0, e.1, e.2 old now unit form x moves h.2)

    pub expression_on : (p : CorePart) (c d : Core) → p ≡ parts.Expression c → CoreOn c d → PartOn p (parts.Expression d)
    expression_on p c d is h0 = part_on p (parts.Expression d) (part_opens (CorePart-F.Expression c) p (parts.Expression d) (ap out-CorePart (is ∙ sym (parts.rolls-Expression c)) ∙ out-roll-CorePart (CorePart-F.Expression c)) (d, refl, h0))

    pub define_on : (p : CorePart) (x y : Binder) (c d : Core) → p ≡ parts.Define x c → y ≡ binder_as r x → CoreOn c d → PartOn p (parts.Define y d)
    define_on p x y c d is h0 h1 = part_on p (parts.Define y d) (part_opens (CorePart-F.Define x c) p (parts.Define y d) (ap out-CorePart (is ∙ sym (parts.rolls-Define x c)) ∙ out-roll-CorePart (CorePart-F.Define x c)) (d, ap (λ (b : Binder). parts.Define b d) h0, h1))

    pub values_on : (p : CorePart) (bs cs : Vec Binder Global) (dotted : Bool) (c d : Core) → p ≡ parts.Values bs dotted c → cs.items ≡ map (binder_as r) bs.items → CoreOn c d → PartOn p (parts.Values cs dotted d)
    values_on p bs cs dotted c d is h0 h1 = part_on p (parts.Values cs dotted d) (part_opens (CorePart-F.Values bs dotted c) p (parts.Values cs dotted d) (ap out-CorePart (is ∙ sym (parts.rolls-Values bs dotted c)) ∙ out-roll-CorePart (CorePart-F.Values bs dotted c)) (cs, d, refl, h0, h1))

    pub fields_on : (p : CorePart) (bs cs fs gs : Vec Binder Global) (ms : Vec ℕ Global) (us vs : Vec FieldUse Global) → p ≡ parts.Fields bs fs ms us → cs.items ≡ map (binder_as r) bs.items → gs.items ≡ map (binder_as r) fs.items → vs.items ≡ map (field_as r) us.items → PartOn p (parts.Fields cs gs ms vs)
    fields_on p bs cs fs gs ms us vs is h0 h1 h2 = part_on p (parts.Fields cs gs ms vs) (part_opens (CorePart-F.Fields bs fs ms us) p (parts.Fields cs gs ms vs) (ap out-CorePart (is ∙ sym (parts.rolls-Fields bs fs ms us)) ∙ out-roll-CorePart (CorePart-F.Fields bs fs ms us)) (cs, gs, vs, refl, h0, h1, h2))

    pub syntax_on : (p : CorePart) (x y : MacroDef) → p ≡ parts.Syntax x → StandsOn r IsMacro (new.macro_of r) x y → PartOn p (parts.Syntax y)
    syntax_on p x y is h0 = part_on p (parts.Syntax y) (part_opens (CorePart-F.Syntax x) p (parts.Syntax y) (ap out-CorePart (is ∙ sym (parts.rolls-Syntax x)) ∙ out-roll-CorePart (CorePart-F.Syntax x)) (y, refl, h0))

  -- ---- lists of them

  pub cores_on : (xs ys : List Core) → AllMatch CoreOn xs ys → StandsOn r CoresStand (cores_as r) xs ys
  cores_on [] [] h old now unit form model.no_cores moves k = tt
  cores_on [] [] h old now unit form (model.core m ms) moves k = absurd k
  cores_on [] (y ∷ ys) h old now unit form ms moves k = absurd h
  cores_on (x ∷ xs) [] h old now unit form ms moves k = absurd h
  cores_on (x ∷ xs) (y ∷ ys) h old now unit form model.no_cores moves k = absurd k
  cores_on (x ∷ xs) (y ∷ ys) h old now unit form (model.core m ms) moves k = (h.0 old now unit form m moves k.0, cores_on xs ys h.1 old now unit form ms moves k.1)

  pub clauses_on : (xs ys : List Clause) → AllMatch ClauseOn xs ys → StandsOn r ClausesStand (clauses_as r) xs ys
  clauses_on [] [] h old now unit form model.no_clauses moves k = tt
  clauses_on [] [] h old now unit form (model.clause bs m ms) moves k = absurd k
  clauses_on [] (y ∷ ys) h old now unit form ms moves k = absurd h
  clauses_on (x ∷ xs) [] h old now unit form ms moves k = absurd h
  clauses_on (x ∷ xs) (y ∷ ys) h old now unit form model.no_clauses moves k = absurd k
  clauses_on (x ∷ xs) (y ∷ ys) h old now unit form (model.clause bs m ms) moves k = (h.0 old now unit form (bs, m) moves k.0, clauses_on xs ys h.1 old now unit form ms moves k.1)

  pub parts_on : (xs ys : List CorePart) → AllMatch PartOn xs ys → StandsOn r PartsStand (parts_as r) xs ys
  parts_on [] [] h old now unit form model.no_parts moves k = tt
  parts_on [] [] h old now unit form (model.part m ms) moves k = absurd k
  parts_on [] (y ∷ ys) h old now unit form ms moves k = absurd h
  parts_on (x ∷ xs) [] h old now unit form ms moves k = absurd h
  parts_on (x ∷ xs) (y ∷ ys) h old now unit form model.no_parts moves k = absurd k
  parts_on (x ∷ xs) (y ∷ ys) h old now unit form (model.part m ms) moves k = (h.0 old now unit form m moves k.0, parts_on xs ys h.1 old now unit form ms moves k.1)
