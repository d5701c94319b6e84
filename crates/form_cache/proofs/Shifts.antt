-- What binds definitions of a unit stands for what it stood for, with other numbers of these.
use Rattle.std.proofs.Common.{◌≡◌, ℕ, ◌+◌, ◌-◌, ◌^◌, ◌<◌, ◌≤◌, List, [], ◌∷◌, map, Bool, false, Vec, refl, sym, ap, ◌∙◌, subst, arith}
use Rattle.std.specs.declared.alloc.Global.{Global}
use Rattle.scheme_model.specs.Ident.{Ident}
use Rattle.scheme_model.specs.Cores.{Bound, LocalNumber, Definition, Binder, Part, Parts, no_parts, part, Expression as expression_part, Define as define_part, Values as values_part, Fields as fields_part, Syntax as syntax_part}
use Rattle.scheme_model.specs.Order.{Item, Expression, Value, Function, Assigned, AssignedFunction, ValuesOf, Record, Macro}
use Rattle.scheme_model.specs.Expression.{meaning_of}
use Rattle.scheme_model.specs.FormsAlike.{bound_moved, binder_with, item_with, part_with, parts_with}
use Rattle.form_laws.specs.Begins.{Each}
use Rattle.kept_forms.proofs.OneSide.{BindsAll}
use Rattle.syntax_tree.specs.Names.{Names}
use Rattle.syntax_tree.specs.Meant.{IsMeaning}
use Rattle.syntax_tree.specs.declared.trees.Work.{Work}
use Rattle.syntax_tree.specs.declared.trees.table.Region.{Region}
use Rattle.core_tree.specs.Names.{AllMatch, IsBound, IsBinder}
use Rattle.core_tree.specs.Cores.{PartStands, PartsStand}
use Rattle.core_tree.specs.Levels.{BindsAs, AllBind, PartBinds, PartsBind}
use Rattle.core_tree.specs.declared.cores.Binder as code_binder
use Rattle.core_tree.specs.declared.cores.Core.{Core}
use Rattle.core_tree.specs.declared.cores.Core.TheOpen.{CorePart-F}
use Rattle.core_tree.specs.declared.cores.Core.TheViews.{out-CorePart, out-roll-CorePart}
use Rattle.core_tree.specs.declared.cores.Clause.{Clause}
use Rattle.core_tree.specs.declared.cores.FieldUse.{FieldUse}
use Rattle.core_tree.specs.declared.cores.CorePart.{CorePart}
use Rattle.core_tree.specs.declared.cores.CorePart.TheVariants as parts
use Rattle.core_tree.specs.declared.units.ExpandedItem.{ExpandedItem}
use Rattle.expansion_laws.specs.Tops.{ItemBinds, ItemsBind}
use Rattle.unit_scopes.specs.Kept.{KeptFor}
use Rattle.unit_scopes.specs.Units.{ItemFor}
use Rattle.form_parts.specs.declared.items.Item as code_item
use Rattle.form_parts.specs.declared.items.Kept.{Kept}
use Rattle.form_cache.specs.declared.shift.Shift.{Shift}
use Rattle.form_cache.specs.Shifted.{shifted, binder_shifted, BindersShift, KeptShifts, ItemShifts, OpenShifts, PartShifts, ExpandedShifts}

abbrev Opened : Type 0
Opened = CorePart-F Core CorePart Clause

-- ---- parts as the code has them

module _ (s : Shift) where
  opens : (o : Opened) (p q : CorePart) → out-CorePart p ≡ o → OpenShifts s o q → PartShifts s p q
  opens o p q e h = subst (λ (x : Opened). OpenShifts s x q) (sym e) h

  opened : (o : Opened) (p q : CorePart) → out-CorePart p ≡ o → PartShifts s p q → OpenShifts s o q
  opened o p q e h = subst (λ (x : Opened). OpenShifts s x q) e h

  pub values_shift : (p : CorePart) (bs cs : Vec code_binder.Binder Global) (dotted : Bool) (c : Core) → p ≡ parts.Values bs dotted c → BindersShift s bs cs → PartShifts s p (parts.Values cs dotted c)
  values_shift p bs cs dotted c is h = opens (CorePart-F.Values bs dotted c) p (parts.Values cs dotted c) (ap out-CorePart (is ∙ sym (parts.rolls-Values bs dotted c)) ∙ out-roll-CorePart (CorePart-F.Values bs dotted c)) (cs, refl, h)

  pub fields_shift : (p : CorePart) (bs cs fs : Vec code_binder.Binder Global) (ms : Vec ℕ Global) (us : Vec FieldUse Global) → p ≡ parts.Fields bs fs ms us → BindersShift s bs cs → PartShifts s p (parts.Fields cs fs ms us)
  fields_shift p bs cs fs ms us is h = opens (CorePart-F.Fields bs fs ms us) p (parts.Fields cs fs ms us) (ap out-CorePart (is ∙ sym (parts.rolls-Fields bs fs ms us)) ∙ out-roll-CorePart (CorePart-F.Fields bs fs ms us)) (cs, refl, h)

  -- ---- numbers from those before the form up to one that fits

  module _ (most : ℕ) (fits : most - s.before + s.to < 2 ^ 64) where
    abbrev pub f : Bound → Bound
    f = bound_moved s.before s.to

    abbrev pub Within : Bound → Type 0
    Within (LocalNumber k) = Unit {0}
    Within (Definition u n) = (s.before ≤ n) × (n ≤ most)

    abbrev AllWithin : List Binder → Type 0
    AllWithin bs = Each (λ (b : Binder). Within b.bound) bs

    number_shifted : (n : ℕ) → s.before ≤ n → n ≤ most → shifted s n ≡ n + s.to - s.before
    number_shifted n low high = omega (arith, low, high, fits)

    bound_stands : (unit form n : ℕ) (x : Bound) → BindsAs false x → Within x → IsBound unit form n x → IsBound unit form (shifted s n) (f x)
    bound_stands unit form n (LocalNumber k) binds in_ h = absurd binds
    bound_stands unit form n (Definition u d) binds in_ h =
        (h.0, (let low : s.before ≤ n = omega (arith, h.1, in_.0) in let high : n ≤ most = omega (arith, h.1, in_.1) in ap (λ m. m + s.to - s.before) h.1 ∙ sym (number_shifted n low high)))

    pub binder_stands : (names : Names) (unit form : ℕ) (b : code_binder.Binder) (m : Binder) → BindsAs false m.bound → Within m.bound → IsBinder names unit form b m → IsBinder names unit form (binder_shifted s b) (binder_with f m)
    binder_stands names unit form b m binds in_ h = record { number = bound_stands unit form b.number m.bound binds in_ h.number; ident = h.ident; place = h.place }

    binders_stand : (names : Names) (unit form : ℕ) (bs : List code_binder.Binder) (ms : List Binder) → AllBind false ms → AllWithin ms → AllMatch (IsBinder names unit form) bs ms →
        AllMatch (IsBinder names unit form) (map (binder_shifted s) bs) (map (binder_with f) ms)
    binders_stand names unit form [] [] binds in_ h = tt
    binders_stand names unit form [] (m ∷ ms) binds in_ h = absurd h
    binders_stand names unit form (b ∷ bs) [] binds in_ h = absurd h
    binders_stand names unit form (b ∷ bs) (m ∷ ms) binds in_ h = (binder_stands names unit form b m binds.0 in_.0 h.0, binders_stand names unit form bs ms binds.1 in_.1 h.1)

    vec_stands : (names : Names) (unit form : ℕ) (bs cs : Vec code_binder.Binder Global) (ms : List Binder) → BindersShift s bs cs → AllBind false ms → AllWithin ms → AllMatch (IsBinder names unit form) bs.items ms →
        AllMatch (IsBinder names unit form) cs.items (map (binder_with f) ms)
    vec_stands names unit form bs cs ms shift binds in_ h = subst (λ (l : List code_binder.Binder). AllMatch (IsBinder names unit form) l (map (binder_with f) ms)) (sym shift) (binders_stand names unit form bs.items ms binds in_ h)

    meaning_stays : (x : Bound) (i : Ident) → meaning_of (f x) i ≡ meaning_of x i
    meaning_stays (LocalNumber k) i = refl
    meaning_stays (Definition u n) i = refl

    -- ---- still definitions

    pub still_binds : (x : Bound) → BindsAs false x → BindsAs false (f x)
    still_binds (LocalNumber k) h = absurd h
    still_binds (Definition u n) h = tt

    all_still : (ms : List Binder) → AllBind false ms → AllBind false (map (binder_with f) ms)
    all_still [] h = tt
    all_still (m ∷ ms) h = (still_binds m.bound h.0, all_still ms h.1)

    item_still : (i : Item Ident) → ItemBinds false i → ItemBinds false (item_with f i)
    item_still (Expression x) h = tt
    item_still (Value b x) h = still_binds b.bound h
    item_still (Function b here c) h = still_binds b.bound h
    item_still (Assigned n x) h = tt
    item_still (AssignedFunction n here c) h = tt
    item_still (ValuesOf bs x) h = all_still bs.names h
    item_still (Record r) h = (all_still r.binders h.0, h.1)
    item_still (Macro b here) h = still_binds b.bound h

    pub items_still : (is : List (Item Ident)) → ItemsBind false is → ItemsBind false (map (item_with f) is)
    items_still [] h = tt
    items_still (i ∷ is) h = (item_still i h.0, items_still is h.1)

    part_still : (p : Part) → PartBinds false p → PartBinds false (part_with f p)
    part_still (expression_part c) h = h
    part_still (define_part b c) h = (still_binds b.bound h.0, h.1)
    part_still (values_part bs c) h = (all_still bs.names h.0, h.1)
    part_still (fields_part r) h = (all_still r.binders h.0, h.1)
    part_still (syntax_part m) h = still_binds m.binder.bound h

    pub parts_still : (ps : Parts) → PartsBind false ps → PartsBind false (parts_with f ps)
    parts_still no_parts h = tt
    parts_still (part p ps) h = (part_still p h.0, parts_still ps h.1)

    -- ---- what was set aside

    module _ (work : Work) (region : Region) (unit form : ℕ) where
      kept_stands : (i : Item Ident) (k j : Kept) → KeptFor work region unit form k i → ItemBinds false i → BindsAll Within i → KeptShifts s k j → KeptFor work region unit form j (item_with f i)
      kept_stands (Expression m) k j h binds in_ shift = let e = subst (λ (x : Kept). KeptShifts s x j) h.1 shift in (h.0, e, h.2)
      kept_stands (Value b m) k j h binds in_ shift = let e = subst (λ (x : Kept). KeptShifts s x j) h.2 shift in (binder_shifted s h.0, h.1, e, binder_stands work.symbols unit form h.0 b binds in_ h.3, h.4)
      kept_stands (Function b here c) k j h binds in_ shift = let e = subst (λ (x : Kept). KeptShifts s x j) h.2 shift in (binder_shifted s h.0, h.1, e, binder_stands work.symbols unit form h.0 b binds in_ h.3, h.4)
      kept_stands (Assigned n m) k j h binds in_ shift = let e = subst (λ (x : Kept). KeptShifts s x j) h.2 shift in (h.0, h.1, e, h.3, h.4)
      kept_stands (AssignedFunction n here c) k j h binds in_ shift = let e = subst (λ (x : Kept). KeptShifts s x j) h.2 shift in (h.0, h.1, e, h.3, h.4)
      kept_stands (ValuesOf bs m) k j h binds in_ shift =
          let e = subst (λ (x : Kept). KeptShifts s x j) h.3 shift in
          (e.0, h.1, h.2, e.1, (vec_stands work.symbols unit form h.0 e.0 bs.names e.2 binds in_ h.4.0, h.4.1), h.5)
      kept_stands (Record r) k j h binds in_ shift =
          let e = subst (λ (x : Kept). KeptShifts s x j) h.4 shift in
          (e.0, h.1, h.2, h.3, e.1, vec_stands work.symbols unit form h.0 e.0 r.binders e.2 binds.0 in_ h.5, h.6, h.7, h.8)
      kept_stands (Macro b here) k j h binds in_ shift =
          let e = subst (λ (x : Kept). KeptShifts s x j) h.2 shift in
          (binder_shifted s h.0, h.1, e, binder_stands work.symbols unit form h.0 b binds in_ h.3, subst (IsMeaning work.symbols unit form h.1) (sym (meaning_stays b.bound b.ident)) h.4)

      pub items_stand : (xs ys : List code_item.Item) (is : List (Item Ident)) → AllMatch (ItemFor work region unit form) xs is → ItemsBind false is → Each (BindsAll Within) is → AllMatch (ItemShifts s) xs ys →
          AllMatch (ItemFor work region unit form) ys (map (item_with f) is)
      items_stand [] [] [] h binds in_ shift = tt
      items_stand [] [] (i ∷ is) h binds in_ shift = absurd h
      items_stand [] (y ∷ ys) is h binds in_ shift = absurd shift
      items_stand (x ∷ xs) [] is h binds in_ shift = absurd shift
      items_stand (x ∷ xs) (y ∷ ys) [] h binds in_ shift = absurd h
      items_stand (x ∷ xs) (y ∷ ys) (i ∷ is) h binds in_ shift = (kept_stands i x.kept y.kept h.0 binds.0 in_.0 shift.0, items_stand xs ys is h.1 binds.1 in_.1 shift.1)

    -- ---- parts

    abbrev pub PartWithin : Part → Type 0
    PartWithin (expression_part c) = Unit {0}
    PartWithin (define_part b c) = Within b.bound
    PartWithin (values_part bs c) = AllWithin bs.names
    PartWithin (fields_part r) = AllWithin r.binders
    PartWithin (syntax_part m) = Within m.binder.bound

    abbrev pub PartsWithin : Parts → Type 0
    PartsWithin no_parts = Unit {0}
    PartsWithin (part p ps) = PartWithin p × PartsWithin ps

    module _ (work : Work) (unit form : ℕ) where
      part_stands : (m : Part) (p q : CorePart) → PartStands work unit form p m → PartBinds false m → PartWithin m → PartShifts s p q → PartStands work unit form q (part_with f m)
      part_stands (expression_part c) p q h binds in_ shift =
          let e = opened (CorePart-F.Expression h.0) p q (ap out-CorePart (h.1 ∙ sym (parts.rolls-Expression h.0)) ∙ out-roll-CorePart (CorePart-F.Expression h.0)) shift in
          (h.0, e, h.2)
      part_stands (define_part b c) p q h binds in_ shift =
          let e = opened (CorePart-F.Define h.0 h.1) p q (ap out-CorePart (h.2 ∙ sym (parts.rolls-Define h.0 h.1)) ∙ out-roll-CorePart (CorePart-F.Define h.0 h.1)) shift in
          (binder_shifted s h.0, h.1, e, binder_stands work.symbols unit form h.0 b binds.0 in_ h.3, h.4)
      part_stands (values_part bs c) p q h binds in_ shift =
          let e = opened (CorePart-F.Values h.0 h.1 h.2) p q (ap out-CorePart (h.3 ∙ sym (parts.rolls-Values h.0 h.1 h.2)) ∙ out-roll-CorePart (CorePart-F.Values h.0 h.1 h.2)) shift in
          (e.0, h.1, h.2, e.1, (vec_stands work.symbols unit form h.0 e.0 bs.names e.2 binds.0 in_ h.4.0, h.4.1), h.5)
      part_stands (fields_part r) p q h binds in_ shift =
          let e = opened (CorePart-F.Fields h.0 h.1 h.2 h.3) p q (ap out-CorePart (h.4 ∙ sym (parts.rolls-Fields h.0 h.1 h.2 h.3)) ∙ out-roll-CorePart (CorePart-F.Fields h.0 h.1 h.2 h.3)) shift in
          (e.0, h.1, h.2, h.3, e.1, vec_stands work.symbols unit form h.0 e.0 r.binders e.2 binds.0 in_ h.5, h.6, h.7, h.8)
      part_stands (syntax_part m) p q h binds in_ shift =
          let e = opened (CorePart-F.Syntax h.0) p q (ap out-CorePart (h.1 ∙ sym (parts.rolls-Syntax h.0)) ∙ out-roll-CorePart (CorePart-F.Syntax h.0)) shift in
          (record h.0 { binder = binder_shifted s h.0.binder }, e, record { binder = binder_stands work.symbols unit form h.0.binder m.binder binds in_ h.2.binder; rules = h.2.rules; leaves = h.2.leaves })

      pub parts_stand : (xs ys : List ExpandedItem) (ps : Parts) → PartsStand work unit form (map (λ i. i.part) xs) ps → PartsBind false ps → PartsWithin ps → AllMatch (ExpandedShifts s) xs ys → PartsStand work unit form (map (λ i. i.part) ys) (parts_with f ps)
      parts_stand [] [] no_parts h binds in_ shift = tt
      parts_stand [] [] (part p ps) h binds in_ shift = absurd h
      parts_stand [] (y ∷ ys) ps h binds in_ shift = absurd shift
      parts_stand (x ∷ xs) [] ps h binds in_ shift = absurd shift
      parts_stand (x ∷ xs) (y ∷ ys) no_parts h binds in_ shift = absurd h
      parts_stand (x ∷ xs) (y ∷ ys) (part p ps) h binds in_ shift = (part_stands p x.part y.part h.0 binds.0 in_.0 shift.0, parts_stand xs ys ps h.1 binds.1 in_.1 shift.1)
