-- What is kept of a form stands for what it stood for, with another number of definitions of its unit before the form.
use Rattle.std.proofs.Common.{◌≡◌, ℕ, suc, Vec, ◌+◌, ◌-◌, ◌^◌, ◌<◌, ◌≤◌, List, [], ◌∷◌, ◌++◌, map, reverse, length, Option, Some, None, Result, Ok, Err, refl, sym, ap, ◌∙◌, subst, arith}
use Rattle.std.specs.declared.alloc.Global.{Global}
use Rattle.std.proofs.lemmas.List.{length-reverse, reverse-append, map-append}
use Rattle.scheme_model.specs.Ident.{Ident}
use Rattle.scheme_model.specs.Trees.{Tree}
use Rattle.scheme_model.specs.RulesShape.{option_map}
use Rattle.scheme_model.specs.Cores.{Bound, LocalNumber, Definition, Binder, Core, Part, Parts, no_parts, part, Expression as expression_part, Define as define_part, Values as values_part, Fields as fields_part, Syntax as syntax_part}
use Rattle.scheme_model.specs.Steps.{Broken, Step, ◌>>=◌, done}
use Rattle.scheme_model.specs.Order.{Item, Expression, Value, Function, Assigned, AssignedFunction, ValuesOf, Record, Macro, Left, Counted, Transformer}
use Rattle.scheme_model.specs.Expression.{meaning_of, macro_with, expand, item_part}
use Rattle.scheme_model.specs.UnitExpansion.{max_depth, with_part}
use Rattle.scheme_model.specs.Program.{enough_turns}
use Rattle.scheme_model.specs.Questions.{Around, Moment, Question, Asking, SameAnswer, asking}
use Rattle.scheme_model.specs.ScopedExpansion.{Frames}
use Rattle.scheme_model.specs.Substitution.{Table, definition_count}
use Rattle.scheme_model.specs.FormsAlike.{bound_moved, binder_with, item_with, left_with, part_with, parts_with, or_fault, questions_of_left}
use Rattle.form_laws.specs.Begins.{Each, LeftBegins}
use Rattle.form_laws.proofs.FormLaws.{set_itself}
use Rattle.form_laws.proofs.AskingAlike.{left_alike}
use Rattle.kept_forms.specs.KeptForms.{KeptAside, KeptItem, KeptParts, KeptForm, item_moved}
use Rattle.kept_forms.specs.Carried.{kept_aside, kept_parts, kept_items, unless_broken, RestFits}
use Rattle.kept_forms.proofs.OneSide.{BindsAll, LeftBinds}
use Rattle.kept_forms.proofs.Numbers.{AtLeast, set_numbers, moved_left}
use Rattle.kept_turns.specs.Turns.{last_of, part_before, result_in}
use Rattle.carried_laws.specs.CarriedEntries.{IsWhole}
use Rattle.carried_laws.specs.Entries.{RestStands, parts_from, kept_from}
use Rattle.carried_laws.proofs.MovedNumbers.{entry_from}
use Rattle.syntax_tree.specs.Names.{Names}
use Rattle.syntax_tree.specs.declared.trees.Work.{Work}
use Rattle.syntax_tree.specs.declared.trees.table.Region.{Region}
use Rattle.core_tree.specs.Names.{AllMatch, IsTarget, IsUse}
use Rattle.core_tree.specs.Units.{IsResult}
use Rattle.core_tree.specs.declared.cores.Binder as code_binder
use Rattle.core_tree.specs.declared.cores.Target.{Target}
use Rattle.core_tree.specs.declared.traces.MacroUse.{MacroUse}
use Rattle.core_tree.specs.declared.units.ExpandedItem.{ExpandedItem}
use Rattle.core_tree.specs.declared.units.UnitForm.{UnitForm}
use Rattle.form_parts.specs.declared.items.Left as code_left
use Rattle.form_parts.specs.declared.items.WaitingUse.{WaitingUse}
use Rattle.unit_scopes.specs.Kept.{WaitsFor}
use Rattle.unit_scopes.specs.State.{IsNumbered}
use Rattle.unit_scopes.specs.declared.scope.Budget.{Budget}
use Rattle.note_laws.specs.Told.{told}
use Rattle.question_laws.specs.Noted.{all_noted}
use Rattle.form_cache.specs.declared.shift.Shift.{Shift}
use Rattle.form_cache.specs.declared.entries.Entry.{Entry}
use Rattle.form_cache.specs.Entries.{Editions, IsEntry, IsLeft, HasSpaceLeft, AsideFor, RestFor, RestClosed, CountsAt, counted_at, numbered_from}
use Rattle.form_cache.specs.Shifted.{shifted, binder_shifted, LeftShifts, ExpandedShifts}
use Rattle.form_cache.proofs.MostNumbers.{AtMost, count_within, set_aside_within}
use Rattle.form_cache.proofs.Shifts.{Within, PartWithin, PartsWithin, items_stand, items_still, parts_stand, parts_still}

-- ---- numbers

match_length : {X Y : Type 0} (P : X → Y → Type 0) (xs : List X) (ys : List Y) → AllMatch P xs ys → length xs ≡ length ys
match_length P [] [] h = refl
match_length P [] (y ∷ ys) h = absurd h
match_length P (x ∷ xs) [] h = absurd h
match_length P (x ∷ xs) (y ∷ ys) h = ap suc (match_length P xs ys h.1)

numbered_length : (n : ℕ) (ds : Table) → length (numbered_from n ds) ≡ length ds
numbered_length n [] = refl
numbered_length n (d ∷ ds) = ap suc (numbered_length n ds)

map_reverse : {X Y : Type 0} (f : X → Y) (xs : List X) → map f (reverse xs) ≡ reverse (map f xs)
map_reverse f [] = refl
map_reverse f (x ∷ xs) =
    ap (map f) (reverse-append (x ∷ []) xs) ∙ map-append f (reverse xs) (x ∷ []) ∙ ap (λ ys. ys ++ f x ∷ []) (map_reverse f xs) ∙ sym (reverse-append (f x ∷ []) (map f xs))

-- ---- what is defined

module _ (s : Shift) (names : Names) (form : ℕ) where
  defined_at : (bs : List code_binder.Binder) (ds : Table) → s.to + length ds ≤ 2 ^ 64 → AllMatch (IsNumbered names form) bs (numbered_from s.before ds) → AllMatch (IsNumbered names form) (map (binder_shifted s) bs) (numbered_from s.to ds)
  defined_at [] [] few h = tt
  defined_at [] (d ∷ ds) few h = absurd h
  defined_at (b ∷ bs) [] few h = absurd h
  defined_at (b ∷ bs) (d ∷ ds) few h =
      let is : b.number ≡ s.before + length ds = h.0.number_is in
      let number : shifted s b.number ≡ s.to + length ds = omega (arith, is, few) in
      (record { form = h.0.form; number_is = number; ident = h.0.ident; place = h.0.place }, defined_at bs ds (omega (arith, few)) h.1)

  defined_count : (bs : List code_binder.Binder) (ds : Table) → AllMatch (IsNumbered names form) (reverse bs) (numbered_from s.before ds) → length bs ≡ length ds
  defined_count bs ds h = sym (length-reverse bs) ∙ match_length (IsNumbered names form) (reverse bs) (numbered_from s.before ds) h ∙ numbered_length s.before ds

  pub definitions_stand : (bs cs : List code_binder.Binder) (ds : Table) → cs ≡ map (binder_shifted s) bs → s.to + length bs ≤ 2 ^ 64 → AllMatch (IsNumbered names form) (reverse bs) (numbered_from s.before ds) →
      AllMatch (IsNumbered names form) (reverse cs) (numbered_from s.to ds)
  definitions_stand bs cs ds is few h =
      let e = defined_count bs ds h in
      subst (λ (l : List code_binder.Binder). AllMatch (IsNumbered names form) l (numbered_from s.to ds)) (map_reverse (binder_shifted s) bs ∙ ap reverse (sym is)) (defined_at (reverse bs) ds (omega (arith, few, e)) h)

-- numbers from a on up to a + made, with b in the place of a
module _ (s : Shift) (made : ℕ) (fits : s.before + made - s.before + s.to < 2 ^ 64) (a : ℕ) where
  abbrev In : Bound → Type 0
  In = Within s (s.before + made) fits

  within : (x : Bound) → AtLeast a x → AtMost (a + made) x → In (bound_moved a s.before x)
  within (LocalNumber k) low high = tt
  within (Definition u n) low high = let l : a ≤ n = low in let h : n ≤ a + made = high in (omega (arith, l, h), omega (arith, l, h))

  names_within : (bs : List Binder) → Each (λ (b : Binder). AtLeast a b.bound) bs → Each (λ (b : Binder). AtMost (a + made) b.bound) bs → Each (λ (b : Binder). In b.bound) (map (binder_with (bound_moved a s.before)) bs)
  names_within [] low high = tt
  names_within (b ∷ bs) low high = (within b.bound low.0 high.0, names_within bs low.1 high.1)

  item_within : (i : Item Ident) → BindsAll (AtLeast a) i → BindsAll (AtMost (a + made)) i → BindsAll In (item_with (bound_moved a s.before) i)
  item_within (Expression x) low high = tt
  item_within (Value b x) low high = within b.bound low high
  item_within (Function b here c) low high = within b.bound low high
  item_within (Assigned n x) low high = tt
  item_within (AssignedFunction n here c) low high = tt
  item_within (ValuesOf bs x) low high = names_within bs.names low high
  item_within (Record r) low high = names_within r.binders low high
  item_within (Macro b here) low high = within b.bound low high

  items_within : (is : List (Item Ident)) → Each (BindsAll (AtLeast a)) is → Each (BindsAll (AtMost (a + made))) is → Each (BindsAll In) (map (item_with (bound_moved a s.before)) is)
  items_within [] low high = tt
  items_within (i ∷ is) low high = (item_within i low.0 high.0, items_within is low.1 high.1)

  -- ---- what is left of the form

  module _ (work : Work) (region : Region) (unit form : ℕ) where
    left_is : (o p : Option code_left.Left) (r : Result (Left Ident) Broken) → LeftBinds (AtLeast a) r → LeftBinds (AtMost (a + made)) r → IsLeft work region unit form o (or_fault (left_with (bound_moved a s.before)) r) → LeftShifts s o p →
        IsLeft work region unit form p (or_fault (left_with (bound_moved a s.to)) r)
    left_is None p (Ok l) low high h shift = absurd h
    left_is None p (Err e) low high h shift = subst (λ (z : Option code_left.Left). IsLeft work region unit form z (Err e)) (sym shift) tt
    left_is (Some x) p (Err e) low high h shift = absurd h
    left_is (Some x) p (Ok l) low high h shift =
        let y = shift.0 in
        let m = left_with (bound_moved a s.before) l in
        let uses = subst (λ (v : Vec WaitingUse Global). AllMatch (WaitsFor work unit form) v.items l.uses) (sym shift.2) h.0.uses in
        let items = items_stand s (s.before + made) fits work region unit form x.items y.items m.items h.0.items h.1 (items_within l.items low high) shift.3 in
        let now : IsLeft work region unit form (Some y) (Ok (left_with (bound_moved s.before s.to) m)) = (record { uses = uses; items = items }, items_still s (s.before + made) fits m.items h.1) in
        let as_was : Ok (left_with (bound_moved a s.to) l) ≡ Ok (left_with (bound_moved s.before s.to) m) = moved_left a s.before s.to (Ok l) m low refl in
        subst (λ (z : Option code_left.Left). IsLeft work region unit form z (Ok (left_with (bound_moved a s.to) l))) (sym shift.1) (subst (IsLeft work region unit form (Some y)) (sym as_was) now)

  left_within : (r : Result (Left Ident) Broken) (m : Left Ident) → LeftBinds (AtLeast a) r → LeftBinds (AtMost (a + made)) r → or_fault (left_with (bound_moved a s.before)) r ≡ Ok m → Each (BindsAll In) m.items
  left_within (Ok l) m low high e = let d : left_with (bound_moved a s.before) l ≡ m = cc in subst (λ (z : Left Ident). Each (BindsAll In) z.items) d (items_within l.items low high)
  left_within (Err x) m low high e = let q : Err x ≡ Ok m = e in absurd cc

  -- ---- parts

  abbrev InPart : Part → Type 0
  InPart = PartWithin s (s.before + made) fits

  abbrev InParts : Parts → Type 0
  InParts = PartsWithin s (s.before + made) fits

  module _ (u : Around) (turns : ℕ) where
    abbrev one : Item Ident → Step Asking Part
    one = item_part (expand (asking u) turns) (asking u) max_depth []

    then_within : (q : Result Core Broken × Asking) (g : Core → Part) → ((c : Core) → InPart (g c)) → (p : Part) → (q >>= λ c. done (g c)).0 ≡ Ok p → InPart p
    then_within (Ok c, t) g all p e = let d : g c ≡ p = cc in subst InPart d (all c)
    then_within (Err x, t) g all p e = let q : Err x ≡ Ok p = e in absurd cc

    macro_within : (t : Asking) (b : Binder) (o : Option (Transformer Frames Ident)) → In b.bound → In (macro_with (asking u) t b o).binder.bound
    macro_within t b None h = h
    macro_within t b (Some m) h = h

    part_within : (i : Item Ident) (t : Asking) (p : Part) → (one i t).0 ≡ Ok p → BindsAll In i → InPart p
    part_within (Expression x) t p e h = then_within _ (λ c. expression_part c) (λ c. tt) p e
    part_within (Value b x) t p e h = then_within _ (λ c. define_part b c) (λ c. h) p e
    part_within (Function b here x) t p e h = then_within _ (λ c. define_part b c) (λ c. h) p e
    part_within (Assigned n x) t p e h = then_within _ (λ c. expression_part c) (λ c. tt) p e
    part_within (AssignedFunction n here x) t p e h = then_within _ (λ c. expression_part c) (λ c. tt) p e
    part_within (ValuesOf bs x) t p e h = then_within _ (λ c. values_part bs c) (λ c. h) p e
    part_within (Record r) t p e h = let d : fields_part r ≡ p = cc in subst InPart d h
    part_within (Macro b here) t p e h =
        let o = (asking u).transformer t (meaning_of b.bound b.ident) in
        let d : syntax_part (macro_with (asking u) t b o) ≡ p = cc in subst InPart d (macro_within t b o h)

    parts_within : (is : List (Item Ident)) (t : Asking) (ps : Parts) → result_in (kept_items one is t) ≡ Ok ps → Each (BindsAll In) is → InParts ps
    parts_within [] t ps e h = let d : no_parts ≡ ps = cc in subst InParts d tt
    parts_within (i ∷ is) t ps e h = go (one i t).0 (one i t).1 (λ p d. part_within i t p d h.0) (λ qs d. parts_within is (one i t).1 qs d h.1) e
      where
        after : (p : Part) → InPart p → (z : Result Parts Broken) → ((qs : Parts) → z ≡ Ok qs → InParts qs) → with_part p z ≡ Ok ps → InParts ps
        after p first (Ok qs) rest e = let d : part p qs ≡ ps = cc in subst InParts d (first, rest qs refl)
        after p first (Err x) rest e = let q : Err x ≡ Ok ps = e in absurd cc

        go : (r : Result Part Broken) (v : Asking) → ((p : Part) → r ≡ Ok p → InPart p) → ((qs : Parts) → result_in (kept_items one is v) ≡ Ok qs → InParts qs) → part_before r (result_in (unless_broken r (kept_items one is v))) ≡ Ok ps → InParts ps
        go (Ok p) v first rest e = after p (first p refl) (result_in (kept_items one is v)) rest e
        go (Err x) v first rest e = let q : Err x ≡ Ok ps = e in absurd cc

  result_shifted : (work : Work) (unit form : ℕ) (c d : UnitForm) (r : Result Parts Broken) (met : Counted) → d.fault ≡ c.fault → d.trace.keywords ≡ c.trace.keywords → d.trace.uses ≡ c.trace.uses → AllMatch (ExpandedShifts s) c.items d.items →
      ((ps : Parts) → r ≡ Ok ps → InParts ps) → IsResult work unit form c r met → IsResult work unit form d (or_fault (parts_with (bound_moved s.before s.to)) r) met
  result_shifted work unit form c d (Ok ps) met fault keywords uses shift in_ h = record {
    whole = fault ∙ h.whole;
    parts = parts_stand s (s.before + made) fits work unit form c.items d.items ps h.parts h.levels (in_ ps refl) shift;
    levels = parts_still s (s.before + made) fits ps h.levels;
    keywords = subst (λ (l : List Target). AllMatch (IsTarget work.symbols unit form) l (reverse met.keywords)) (sym keywords) h.keywords;
    uses = subst (λ (l : List MacroUse). AllMatch (IsUse work.symbols unit form) l (reverse met.met)) (sym uses) h.uses;
  }
  result_shifted work unit form c d (Err e) met fault keywords uses shift in_ h = (h.0, fault ∙ h.1, h.2)

-- ---- what is kept of the rest, with other numbers

module _ (g : Bound → Bound) where
  result_moved : (ks : List KeptItem) → result_in (map (item_moved g) ks) ≡ or_fault (parts_with g) (result_in ks)
  result_moved [] = refl
  result_moved (k ∷ ks) = go k.part (result_in (map (item_moved g) ks)) (result_in ks) (result_moved ks)
    where
      go : (r : Result Part Broken) (x y : Result Parts Broken) → x ≡ or_fault (parts_with g) y → part_before (or_fault (part_with g) r) x ≡ or_fault (parts_with g) (part_before r y)
      go (Err e) x y d = refl
      go (Ok p) x (Ok ps) d = ap (with_part (part_with g p)) d
      go (Ok p) x (Err e) d = ap (with_part (part_with g p)) d

  last_moved : (m : Moment) (ks : List KeptItem) → last_of m (map (item_moved g) ks) ≡ last_of m ks
  last_moved m [] = refl
  last_moved m (k ∷ ks) = last_moved k.moment ks

answers_stay : (u : Around) (qs : List (Moment × Question)) → Each (SameAnswer u u) qs
answers_stay u [] = tt
answers_stay u (q ∷ qs) = (refl, answers_stay u qs)

questions_stay : (u : Around) (from to : ℕ) (l : Left Ident) → LeftBegins u l → questions_of_left u enough_turns (Ok (left_with (bound_moved from to) l)) ≡ questions_of_left u enough_turns (Ok l)
questions_stay u from to l h =
    ap (λ (z : Asking). z.asked) (left_alike u u (record { unit = refl; form = refl; counts = refl }) h.state h.state enough_turns from to l (answers_stay u (questions_of_left u enough_turns (Ok l))))

-- ---- the entry

space_stays : (s : Shift) (b : Budget) (o p : Option code_left.Left) → LeftShifts s o p → HasSpaceLeft b o → HasSpaceLeft b p
space_stays s b None p shift h = subst (HasSpaceLeft b) (sym shift) tt
space_stays s b (Some x) p shift h = subst (HasSpaceLeft b) (sym shift.1) h

none_none : {X : Type 0} (R : X → X → Type 0) (xs ys : List X) → AllMatch R xs ys → xs ≡ [] → ys ≡ []
none_none R xs [] h e = refl
none_none R [] (y ∷ ys) h e = absurd h
none_none R (x ∷ xs) (y ∷ ys) h e = let q : x ∷ xs ≡ [] = e in absurd cc

module _ (work : Work) (region : Region) (e : Editions) (unit : ℕ) (n : ℕ × Tree Ident) (x : Entry) (f : UnitForm) (k : KeptForm) (w u : Around) (h : IsEntry work region e unit n x f k w u)
    (to : ℕ) (left : Option code_left.Left) (items : List ExpandedItem) (defined : List code_binder.Binder) where
  abbrev s : Shift
  s = record { before = x.before; to = to }

  abbrev y : Entry
  y = record x { before = to; left = left }

  abbrev g : UnitForm
  g = record f { items = items; trace = record f.trace { definitions = defined } }

  abbrev made : ℕ
  made = length k.aside.moment.table

  low : LeftBinds (AtLeast k.aside.before) k.aside.pass.left
  low =
      subst (λ (a : KeptAside). LeftBinds (AtLeast a.before) a.pass.left) (sym h.stands.aside)
      (subst (LeftBinds (AtLeast (definition_count w.state.table w.state.unit))) (set_itself w enough_turns n.1 h.stands.begun).rest (set_numbers w enough_turns n.1))

  high : LeftBinds (AtMost (k.aside.before + made)) k.aside.pass.left
  high =
      let a = kept_aside w enough_turns n.1 in
      subst (λ (a : KeptAside). LeftBinds (AtMost (a.before + length a.moment.table)) a.pass.left) (sym h.stands.aside)
      (set_aside_within w enough_turns n.1 (a.before + length a.moment.table) (count_within a.moment.table w.state.table w.state.unit))

  made_is : length f.trace.definitions ≡ made
  made_is = defined_count s work.symbols n.0 f.trace.definitions k.aside.moment.table h.definitions

  module _ (few : to + length f.trace.definitions < 2 ^ 64) (left_shifts : LeftShifts s x.left left) (items_shift : AllMatch (ExpandedShifts s) f.items items) (defined_shifts : defined ≡ map (binder_shifted s) f.trace.definitions) where
    fits : s.before + made - s.before + s.to < 2 ^ 64
    fits = let e = made_is in omega (arith, few, e)

    left_now : IsLeft work region unit n.0 left (or_fault (left_with (bound_moved k.aside.before to)) k.aside.pass.left)
    left_now = left_is s made fits k.aside.before work region unit n.0 x.left left k.aside.pass.left low high h.aside.left left_shifts

    aside_now : AsideFor work region e unit n.0 n.1 y k.aside w
    aside_now = let a = h.aside in record { tree = a.tree; lies = a.lies; left = left_now; declared = a.declared; space = space_stays s x.declared.counts x.left left left_shifts a.space; noted = a.noted; part = a.part; told = a.told }

    rest_now : (o : Option KeptParts) → RestStands unit n.0 u o → RestFits k.aside o → RestFor work region e unit n.0 x f o u → RestFor work region e unit n.0 y g (option_map (parts_from to) o) u
    rest_now None stands fit r = (none_none (ExpandedShifts s) f.items items items_shift r.0, subst (λ (z : Option code_left.Left). LeftShifts s z left) r.1 left_shifts, r.2)
    rest_now (Some c) stands fit r =
        let before : c.before ≡ x.before = r.1 in
        let moved : or_fault (left_with (bound_moved k.aside.before to)) k.aside.pass.left ≡ Ok (left_with (bound_moved c.before to) c.left) = moved_left k.aside.before c.before to k.aside.pass.left c.left low fit.1 in
        let here : or_fault (left_with (bound_moved k.aside.before x.before)) k.aside.pass.left ≡ Ok c.left = subst (λ (b : ℕ). or_fault (left_with (bound_moved k.aside.before b)) k.aside.pass.left ≡ Ok c.left) before fit.1 in
        let in_left = left_within s made fits k.aside.before k.aside.pass.left c.left low high here in
        let from : c.items ≡ (kept_parts u enough_turns c.before c.left).items = ap (λ (z : KeptParts). z.items) stands.3 in
        let in_parts = λ (ps : Parts) (d : result_in c.items ≡ Ok ps). parts_within s made fits k.aside.before u enough_turns c.left.items _ ps (ap result_in (sym from) ∙ d) in_left in
        let met = counted_at (last_of c.met c.items) in
        let result = result_shifted s made fits k.aside.before work unit n.0 f g (result_in c.items) met refl refl refl items_shift in_parts r.3 in
        let there = subst (λ (z : Result Parts Broken). IsResult work unit n.0 g z met) (sym (result_moved (bound_moved x.before to) c.items)) result in
        let last : last_of c.met (map (item_moved (bound_moved c.before to)) c.items) ≡ last_of c.met c.items = last_moved (bound_moved c.before to) c.met c.items in (
          r.0,
          refl,
          subst (IsLeft work region unit n.0 left) moved left_now,
          subst (λ (m : Moment). IsResult work unit n.0 g (result_in (map (item_moved (bound_moved c.before to)) c.items)) (counted_at m)) (sym last)
              (subst (λ (b : ℕ). IsResult work unit n.0 g (result_in (map (item_moved (bound_moved b to)) c.items)) met) (sym before) there),
          subst (CountsAt x.counts) (sym last) r.4,
          r.5,
          r.6 ∙ ap (λ qs. map (told u) (all_noted u qs)) (sym (questions_stay u c.before to c.left stands.2)),
        )

    closed_now : (o : Option KeptParts) → RestClosed u o → RestClosed u (option_map (parts_from to) o)
    closed_now None c = tt
    closed_now (Some c) d = d

    whole_now : (o : Option KeptParts) → IsWhole k.aside o → IsWhole k.aside (option_map (parts_from to) o)
    whole_now None d = d
    whole_now (Some c) d = tt

    definitions_now : AllMatch (IsNumbered work.symbols n.0) (reverse defined) (numbered_from to k.aside.moment.table)
    definitions_now = definitions_stand s work.symbols n.0 f.trace.definitions defined k.aside.moment.table defined_shifts (omega (arith, few)) h.definitions

    pub entry_shifted : IsEntry work region e unit n y g (kept_from to k) w u
    entry_shifted = record {
      stands = entry_from unit n k w u h.stands to;
      closed = (h.closed.0, closed_now k.parts h.closed.1);
      aside = aside_now;
      rest = rest_now k.parts h.stands.rest h.stands.fits h.rest;
      definitions = definitions_now;
      fault = h.fault;
      whole = whole_now k.parts h.whole;
    }
