-- What forms set aside is expanded, one form more at a time.
use Rattle.std.proofs.Common.{◌≡◌, ℕ, zero, suc, ◌+◌, List, [], ◌∷◌, ◌++◌, map, take, drop, reverse, length, slice_get, true, false, Option, Some, None, Result, Ok, refl, sym, ap, ◌∙◌, subst, inl, inr, arith, true≢false}
use Rattle.std.specs.Prelude.{nat_lt}
use Rattle.std.proofs.lemmas.List.{append_assoc, append-nil, length_push}
use Rattle.scheme_model.specs.Order.{Counted, Note}
use Rattle.scheme_model.specs.Cores.{Parts, no_parts}
use Rattle.scheme_model.specs.Steps.{Broken}
use Rattle.scheme_model.specs.Substitution.{Defined, Table}
use Rattle.scheme_model.specs.UnitExpansion.{Formed, max_total, nodes_in}
use Rattle.scheme_model.specs.Requirements.{Known}
use Rattle.scheme_model.specs.ScopedExpansion.{Frames, FramedIdent, ScopedState}
use Rattle.kept_forms.specs.KeptForms.{LeftOrKept}
use Rattle.forgotten_locals.specs.Outside.{forgotten}
use Rattle.forgotten_locals.specs.Ways.{seconds_by}
use Rattle.macro_uses.specs.MacroUses.{total_of}
use Rattle.syntax_tree.specs.Names.{Names, KeepsNames}
use Rattle.syntax_tree.specs.Works.{KeepsTrees}
use Rattle.syntax_tree.specs.declared.trees.Work.{Work}
use Rattle.core_tree.specs.Names.{AllMatch, IsTarget, IsUse}
use Rattle.core_tree.specs.Cores.{PartsStand}
use Rattle.core_tree.specs.Units.{IsBlank, FormsStand, IsResult, defined_by}
use Rattle.core_tree.specs.declared.cores.Binder as code_binder
use Rattle.core_tree.specs.declared.cores.Target as code_target
use Rattle.core_tree.specs.declared.traces.MacroUse as code_use
use Rattle.core_tree.specs.declared.units.ExpandedItem.{ExpandedItem}
use Rattle.core_tree.specs.declared.units.UnitForm as code_form
use Rattle.feature_requirements.specs.Judged.{Knows}
use Rattle.unit_scopes.specs.Others.{InOrder}
use Rattle.unit_scopes.specs.Searched.{searched}
use Rattle.unit_scopes.specs.State.{numbered, IsNumbered, numbered_in}
use Rattle.unit_scopes.specs.Forgotten.{OwnFirst}
use Rattle.unit_scopes.specs.declared.scope.Budget.{Budget}
use Rattle.unit_scopes.specs.declared.scope.UnitScope.{UnitScope}
use Rattle.unit_scopes.proofs.CoreStandLaws.{every_on}
use Rattle.unit_scopes.proofs.FormsDefine.{Tell, forms_define}
use Rattle.unit_scopes.proofs.OutcomeLaws.{grows_itself}
use Rattle.expansion_laws.proofs.PartsStay.{forms_on}
use Rattle.form_expansion.specs.Ends.{Rise, IsAmong, Comes}
use Rattle.form_expansion.specs.Forms.{StandsOutside, IsUntouched, HaveCounted, expanding, FinishesTo, EndsForm, CanFinish, CanFinishAll, FormsHeld, AreDeclared, AreFormed, Finishes, Stays, IsForgotten, known_by, numbers_left}
use Rattle.form_expansion.specs.declared.forms.Bench.{Bench}
use Rattle.form_expansion.specs.declared.forms.Declared as code
use Rattle.form_expansion.proofs.DeclaredForms.{declared_on}
use Rattle.form_expansion.proofs.FormsFinish.{with_scope, dropped_at}
use Rattle.form_expansion.proofs.FormLoop.{Ended}
use Rattle.form_expansion.proofs.UnitForms.{step_total}
use Rattle.form_expansion.proofs.UnitWalk.{behind, behind_none, behind_twice}
use Rattle.form_expansion.proofs.OutsideWalk.{way, among_left, finish_over, finish_on}

-- ---- lists

dropped_all : {X : Type 0} (xs : List X) (k : ℕ) → k ≡ length xs → drop k xs ≡ []
dropped_all [] zero h = refl
dropped_all [] (suc k) h = refl
dropped_all (x ∷ xs) zero h = absurd (omega (arith, h))
dropped_all (x ∷ xs) (suc k) h = dropped_all xs k (omega (arith, h))

-- ---- all forms

abbrev AreOrdered : (behind unit : ℕ) → Table → Type 0
AreOrdered behind unit table = InOrder (λ (d : Defined). d.form) 0 behind (defined_by unit table)

-- the forms so far stand, and tell what the unit defines in them
pub record AreFinished (b : Bench) (unit place : ℕ) (ds : List code.Declared) (cs : List code_form.UnitForm) : Type 0 where
  pub held : FormsHeld b unit place ds
  pub count : length cs ≡ place
  pub formed : List Formed
  pub stand : FormsStand b.work unit 0 cs formed
  pub tell : Tell b.work.symbols 0 cs (numbered (defined_by unit held.state.table))

pub none_finished : (b : Bench) (unit : ℕ) (ds : List code.Declared) → FormsHeld b unit 0 ds → AreFinished b unit 0 ds []
none_finished b unit ds h = record { held = h; count = refl; formed = []; stand = tt; tell = tt }

forms_more : (work : Work) (unit form : ℕ) (cs : List code_form.UnitForm) (fs : List Formed) (c : code_form.UnitForm) (f : Formed) → f.form ≡ form + length cs → FormsStand work unit form cs fs → IsResult work unit f.form c f.result f.counted →
    FormsStand work unit form (cs ++ c ∷ []) (fs ++ f ∷ [])
forms_more work unit form [] [] c f at h is = let here : f.form ≡ form = omega (arith, at) in inr (here, subst (λ (n : ℕ). IsResult work unit n c f.result f.counted) here is, tt)
forms_more work unit form [] (g ∷ fs) c f at h is = absurd h
forms_more work unit form (d ∷ cs) [] c f at h is = inl (h.0, omega (arith, at), forms_more work unit (suc form) cs [] c f (omega (arith, at)) h.1 is)
forms_more work unit form (d ∷ cs) (g ∷ fs) c f at h is = elim h [
  | inl blank ↦ inl (blank.0, blank.1, forms_more work unit (suc form) cs (g ∷ fs) c f (omega (arith, at)) blank.2 is)
  | inr done ↦ inr (done.0, done.1, forms_more work unit (suc form) cs fs c f (omega (arith, at)) done.2 is)
]

module _ (old new : Names) (names : KeepsNames old new) where
  binder_on : (form : ℕ) (b : code_binder.Binder) (d : ℕ × Defined) → IsNumbered old form b d → IsNumbered new form b d
  binder_on form b d h = record { form = h.form; number_is = h.number_is; ident = names.idents b.ident d.1.ident h.ident; place = h.place }

  tell_on : (form : ℕ) (cs : List code_form.UnitForm) (ds : List (ℕ × Defined)) → Tell old form cs ds → Tell new form cs ds
  tell_on form [] ds h = tt
  tell_on form (c ∷ cs) ds h = (every_on (IsNumbered old form) (IsNumbered new form) (binder_on form) (reverse c.trace.definitions) _ h.0, tell_on (suc form) cs ds h.1)

tell_more : (names : Names) (form : ℕ) (cs : List code_form.UnitForm) (c : code_form.UnitForm) (n : ℕ) (ds : List Defined) → n ≡ form + length cs → Tell names form cs (numbered ds) → Tell names n (c ∷ []) (numbered ds) → Tell names form (cs ++ c ∷ []) (numbered ds)
tell_more names form [] c n ds at h is = subst (λ (k : ℕ). Tell names k (c ∷ []) (numbered ds)) (let e : n ≡ form = omega (arith, at) in e) is
tell_more names form (d ∷ cs) c n ds at h is = (h.0, tell_more names (suc form) cs c n ds (omega (arith, at)) h.1 is)

pub next_finished : (b c : Bench) (unit place : ℕ) (ds : List code.Declared) (cs : List code_form.UnitForm) (k : code_form.UnitForm) (h : AreFinished b unit place ds cs) → KeepsTrees b.work c.work → KeepsNames b.work.symbols c.work.symbols →
    (f : FinishesTo b c unit place h.held.state k) (ls : List Frames) (notes : List (Note FramedIdent)) → StandsOutside c ls f.state notes → AreFinished c unit (suc place) ds (cs ++ k ∷ [])
next_finished b c unit place ds cs k h trees names f ls notes stands =
    let was = h.held in
    let f_is : Formed = record { form = place; result = f.result; counted = f.met } in
    let at : place ≡ 0 + length cs = let e = h.count in omega (arith, e) in
    record {
      held = record {
        layout = ls;
        state = f.state;
        notes = notes;
        stands = stands;
        number = f.number;
        held = λ m d le is. let x = was.held m d (omega (arith, le)) is in (x.0, f.kept m d x.0 (λ same. omega (arith, le, same)) x.1);
        in_order =
            subst (λ (u : ℕ). AreOrdered (length ds) u f.state.table) (was.number ∙ sym f.number)
            (subst (λ (t : Table). AreOrdered (length ds) was.state.unit t) (sym f.table) was.in_order);
      };
      count = let e = h.count in let l = length_push cs k in omega (arith, e, l);
      formed = h.formed ++ f_is ∷ [];
      stand = forms_more c.work unit 0 cs h.formed k f_is at (forms_on b.work c.work trees names unit cs h.formed 0 h.stand) f.result_is;
      tell =
          tell_more c.work.symbols 0 cs k place (defined_by unit f.state.table) at
          (tell_on b.work.symbols c.work.symbols names 0 cs (numbered (defined_by unit f.state.table))
          (subst (λ (t : Table). Tell b.work.symbols 0 cs (numbered (defined_by unit t))) (sym f.table) h.tell))
          (f.definitions, tt);
    }

pub all_finished_formed : (b : Bench) (unit place : ℕ) (ds : List code.Declared) (cs : List code_form.UnitForm) → place ≡ length ds → AreFinished b unit place ds cs → AreFormed b.work unit cs
all_finished_formed b unit place ds cs all h =
    let was = h.held in
    let count : length ds ≡ length cs = let e = h.count in omega (arith, e, all) in
    record {
      formed = h.formed;
      stand = h.stand;
      defined = defined_by unit was.state.table;
      definitions =
          forms_define b.work.symbols unit cs was.state.table
          (subst (λ (u : ℕ). AreOrdered (length cs) u was.state.table) was.number (subst (λ (n : ℕ). AreOrdered n was.state.unit was.state.table) count was.in_order))
          h.tell;
    }

can_finish : (b : Bench) (unit place : ℕ) (ds : List code.Declared) → OwnFirst b.scope → (h : FormsHeld b unit place ds) (d : code.Declared) → slice_get ds place ≡ Some d → CanFinish b unit place d
can_finish b unit place ds first h d at =
    let x = h.held place d (omega arith) at in
    record { layout = h.layout; state = h.state; notes = h.notes; stands = h.stands; first = first; number = h.number; result = x.0; form_is = x.1 }

-- the same by the form's number
pub can_finish_at : (b : Bench) (unit place : ℕ) (ds : List code.Declared) → OwnFirst b.scope → (h : FormsHeld b unit place ds) (n : ℕ) → n ≡ place → (d : code.Declared) → slice_get ds place ≡ Some d → CanFinish b unit n d
can_finish_at b unit place ds first h n same d at = subst (λ (m : ℕ). CanFinish b unit m d) (sym same) (can_finish b unit place ds first h d at)

-- as it is left by the call that expands the form
pub finished_at : (b c : Bench) (unit place : ℕ) (ds : List code.Declared) (cs : List code_form.UnitForm) (k : code_form.UnitForm) (h : AreFinished b unit place ds cs) → KeepsTrees b.work c.work → KeepsNames b.work.symbols c.work.symbols →
    (d : code.Declared) → slice_get ds place ≡ Some d → (start total : ℕ) (from to : ℕ) (budget : Budget) → Ended b c unit place d start total from to budget k → AreFinished c unit (suc place) ds (cs ++ k ∷ [])
finished_at b c unit place ds cs k h trees names d at start total from to budget so =
    let was = h.held in
    let x = was.held place d (omega arith) at in
    let f = so (known_by b.scope.libraries) was.layout was.state was.notes x.0 (λ l _. refl) was.stands was.number x.1 in
    next_finished b c unit place ds cs k h trees names f.finishes f.layout f.notes f.stands

-- ---- a form that isn't expanded

-- a form that isn't expanded stands for none
forms_blank : (work : Work) (unit form : ℕ) (cs : List code_form.UnitForm) (fs : List Formed) (c : code_form.UnitForm) → IsBlank c → FormsStand work unit form cs fs → FormsStand work unit form (cs ++ c ∷ []) fs
forms_blank work unit form [] [] c is h = (is, tt)
forms_blank work unit form [] (f ∷ fs) c is h = absurd h
forms_blank work unit form (d ∷ cs) [] c is h = (h.0, forms_blank work unit (suc form) cs [] c is h.1)
forms_blank work unit form (d ∷ cs) (f ∷ fs) c is h = elim h [
  | inl blank ↦ inl (blank.0, blank.1, forms_blank work unit (suc form) cs (f ∷ fs) c is blank.2)
  | inr done ↦ inr (done.0, done.1, forms_blank work unit (suc form) cs fs c is done.2)
]

none_matched : {X Y : Type 0} (P : X → Y → Type 0) (xs : List X) (ys : List Y) → xs ≡ [] → AllMatch P (reverse xs) ys → ys ≡ []
none_matched {X} {Y} P xs ys none h = by ys (subst (λ (zs : List X). AllMatch P (reverse zs) ys) none h)
  where
    by : (zs : List Y) → AllMatch P [] zs → zs ≡ []
    by [] h = refl
    by (z ∷ zs) h = absurd h

-- a form that isn't expanded changes nothing
blank_to : (b : Bench) (u : UnitScope) (unit place : ℕ) (ds : List code.Declared) (h : FormsHeld b unit place ds) (d : code.Declared) (k : code_form.UnitForm) → slice_get ds place ≡ Some d → IsUntouched d → IsBlank k → FinishesTo b (with_scope b u) unit place h.state k
blank_to b u unit place ds h d k at none blank =
    let x = h.held place d (omega arith) at in
    let defined : numbered_in h.state.unit place h.state.table ≡ [] = none_matched (IsNumbered b.work.symbols place) d.so_far.trace.definitions (numbered_in h.state.unit place h.state.table) none.definitions x.1.counts.definitions in
    record {
      state = h.state;
      number = h.number;
      kept = λ m c r apart is. is;
      uses = λ m apart. refl;
      table = refl;
      macros = refl;
      result = Ok no_parts;
      met = record { locals = 0; uses = 0; nodes = 0; keywords = []; met = [] };
      result_is = record {
        whole = blank.fault;
        parts = subst (λ (xs : List ExpandedItem). PartsStand b.work unit place (map (λ (i : ExpandedItem). i.part) xs) no_parts) (sym blank.items) tt;
        levels = tt;
        keywords = subst (λ (ts : List code_target.Target). AllMatch (IsTarget b.work.symbols unit place) ts []) (sym blank.keywords) tt;
        uses = subst (λ (us : List code_use.MacroUse). AllMatch (IsUse b.work.symbols unit place) us []) (sym blank.uses) tt;
      };
      definitions =
          subst (λ (bs : List code_binder.Binder). AllMatch (IsNumbered b.work.symbols place) (reverse bs) (numbered_in unit place h.state.table)) (sym blank.definitions)
          (subst (λ (es : List (ℕ × Defined)). AllMatch (IsNumbered b.work.symbols place) [] es) (sym (subst (λ (u : ℕ). numbered_in u place h.state.table ≡ []) h.number defined)) tt);
    }

-- ---- the definition's forms, as they are finished

module _ (known : Known) (unit : ℕ) (rs : List LeftOrKept) (s : ScopedState) (rise : Rise 0 (numbers_left rs)) (ds : List code.Declared) (first : ℕ) where
  -- what is still to come of forms
  abbrev to_come : List LeftOrKept → ScopedState → Option (List Formed) × ScopedState
  to_come rest t = seconds_by way known (numbers_left rs) rest t

  -- so many are finished, and none made the nodes too many
  pub record GoneOn (b : Bench) (place : ℕ) (cs : List code_form.UnitForm) (rest : List LeftOrKept) (t : ScopedState) : Type 0 where
    pub gone : List Formed
    pub forms : FormsStand b.work unit 0 cs gone
    pub left : AreDeclared b.work b.region unit place t (drop place ds) rest
    pub goes : to_come rs s ≡ behind gone (to_come rest t)

  -- so many are finished, or as many as it took to count too many nodes
  pub record AllSo (b : Bench) (total place now : ℕ) (cs : List code_form.UnitForm) : Type 0 where
    pub base : AreFinished b unit place ds cs
    pub front : List LeftOrKept
    pub rest : List LeftOrKept
    pub parted : front ++ rest ≡ rs
    pub counted : nodes_in (searched known) (numbers_left rs) base.held.state ≡ total
    pub over : nat_lt max_total total ≡ true → to_come rs s ≡ (None, base.held.state)
    pub on : nat_lt max_total total ≡ false → GoneOn b place cs rest base.held.state
    pub steps : now + total_of s.uses (numbers_left rs) ≡ first + total_of base.held.state.uses (numbers_left rs)

  pub none_so : (b : Bench) (h : FormsHeld b unit 0 ds) (total : ℕ) → h.state ≡ s → CanFinishAll b unit known rs s total ds → AllSo b total 0 first []
  unfolding none_finished
  none_so b h total same can = record {
    base = none_finished b unit ds h;
    front = [];
    rest = rs;
    parted = refl;
    counted = ap (λ (t : ScopedState). nodes_in (searched known) (numbers_left rs) t) same ∙ can.counted;
    over = λ many. absurd (true≢false (sym many ∙ can.few));
    on = λ few. record {
      gone = [];
      forms = tt;
      left = subst (λ (t : ScopedState). AreDeclared b.work b.region unit 0 t ds rs) (sym same) can.forms;
      goes = ap (λ (t : ScopedState). to_come rs t) (sym same) ∙ sym (behind_none (to_come rs h.state));
    };
    steps = ap (λ (t : ScopedState). first + total_of t.uses (numbers_left rs)) (sym same);
  }

  module _ (b : Bench) (total place so_many : ℕ) (cs : List code_form.UnitForm) (a : AllSo b total place so_many cs) (few : nat_lt max_total total ≡ false) (d : code.Declared) (at : slice_get ds place ≡ Some d) (k : code_form.UnitForm) where
    abbrev was : ScopedState
    was = a.base.held.state

    so_far : GoneOn b place cs a.rest was
    so_far = a.on few

    -- one that isn't expanded
    blank_so : (u : UnitScope) → StandsOutside (with_scope b u) (take (b.scope.root + 1) a.base.held.layout) was a.base.held.notes → IsUntouched d → IsBlank k → AreDeclared b.work b.region unit (suc place) was (drop (suc place) ds) a.rest →
        AllSo (with_scope b u) total (suc place) so_many (cs ++ k ∷ [])
    unfolding next_finished blank_to
    blank_so u stands none blank left =
        let g = grows_itself b.work b.region in
        record {
          base = next_finished b (with_scope b u) unit place ds cs k a.base g.trees g.names (blank_to b u unit place ds a.base.held d k at none blank) (take (b.scope.root + 1) a.base.held.layout) a.base.held.notes stands;
          front = a.front;
          rest = a.rest;
          parted = a.parted;
          counted = a.counted;
          over = a.over;
          on = λ still. record { gone = so_far.gone; forms = forms_blank b.work unit 0 cs so_far.gone k blank so_far.forms; left = left; goes = so_far.goes };
          steps = a.steps;
        }

    -- one that is
    module _ (c : Bench) (after : ℕ) (trees : KeepsTrees b.work c.work) (names : KeepsNames b.work.symbols c.work.symbols) (r : LeftOrKept) (rest : List LeftOrKept) (parted : a.front ++ r ∷ rest ≡ rs) (others : a.rest ≡ r ∷ rest) (here : r.form ≡ place)
        (left : AreDeclared b.work b.region unit (suc place) was (drop (suc place) ds) rest) (to : ℕ) (budget : Budget) (f : EndsForm b c known unit place r.left was total after so_many to budget k) where
      abbrev now : ScopedState
      now = f.finishes.state

      abbrev row : Formed
      row = record { form = r.form; result = f.finishes.result; counted = (searched known).counted now }

      counting : HaveCounted known (numbers_left rs) place was total
      counting = record {
        rise = rise;
        among = subst (λ (n : ℕ). IsAmong n (numbers_left rs)) here (subst (λ (qs : List LeftOrKept). IsAmong r.form (numbers_left qs)) parted (among_left a.front rest r));
        counted = a.counted;
      }

      came : Comes (searched known) (numbers_left rs) (forgotten (expanding known (numbers_left rs) place r.left was)) after now (λ (given : Result Parts Broken). given ≡ f.finishes.result)
      came = f.goes (numbers_left rs) counting

      -- the form's own number is its place
      at_turn : forgotten (expanding known (numbers_left rs) r.form r.left was) ≡ forgotten (expanding known (numbers_left rs) place r.left was)
      at_turn = ap (λ (n : ℕ). forgotten (expanding known (numbers_left rs) n r.left was)) here

      before_it : to_come rs s ≡ behind so_far.gone (to_come (r ∷ rest) was)
      before_it = so_far.goes ∙ ap (λ (qs : List LeftOrKept). behind so_far.gone (to_come qs was)) others

      next_over : nat_lt max_total after ≡ true → to_come rs s ≡ (None, now)
      next_over many = before_it ∙ ap (behind so_far.gone) (finish_over known (numbers_left rs) r rest was now (at_turn ∙ came.over many))

      next_on : nat_lt max_total after ≡ false → to_come rs s ≡ behind (so_far.gone ++ row ∷ []) (to_come rest now)
      next_on still =
          let w = came.whole still in
          before_it
          ∙ (ap (behind so_far.gone) (finish_on known (numbers_left rs) r rest was f.finishes.result now (at_turn ∙ (w.1 ∙ ap (λ (q : Result Parts Broken). (Some q, now)) w.2)))
          ∙ behind_twice so_far.gone (row ∷ []) (to_come rest now))

      result_is : IsResult c.work unit r.form k f.finishes.result ((searched known).counted now)
      result_is =
          subst (λ (n : ℕ). IsResult c.work unit n k f.finishes.result ((searched known).counted now)) (sym here)
          (subst (λ (m : Counted). IsResult c.work unit place k f.finishes.result m) f.counted f.finishes.result_is)

      -- each macro use was a step
      next_steps : to + total_of s.uses (numbers_left rs) ≡ first + total_of now.uses (numbers_left rs)
      next_steps =
          let more = step_total place was.uses now.uses f.finishes.uses 0 (numbers_left rs) rise counting.among in let here = f.steps in let before = a.steps in omega (arith, more, here, before)

      next_so : AllSo c after (suc place) to (cs ++ k ∷ [])
      unfolding next_finished
      next_so =
          let count : r.form ≡ 0 + length cs = let e = a.base.count in omega (arith, e, here) in
          record {
            base = next_finished b c unit place ds cs k a.base trees names f.finishes f.layout f.notes f.stands;
            front = a.front ++ r ∷ [];
            rest = rest;
            parted = append_assoc a.front (r ∷ []) rest ∙ parted;
            counted = came.counted;
            over = next_over;
            on = λ still. record {
              gone = so_far.gone ++ row ∷ [];
              forms = forms_more c.work unit 0 cs so_far.gone k row count (forms_on b.work c.work trees names unit cs so_far.gone 0 so_far.forms) result_is;
              left = declared_on b c unit (suc place) (suc place + length (drop (suc place) ds)) was now (λ m e q from low is. f.finishes.kept m e q (λ same. omega (arith, from, same)) is) (suc place) (drop (suc place) ds) rest (omega arith) (omega arith) left;
              goes = next_on still;
            };
            steps = next_steps;
          }

    next_is : drop place ds ≡ d ∷ drop (suc place) ds
    next_is = dropped_at ds place d at

    -- either
    pub one_so : (c : Bench) (after to : ℕ) (budget : Budget) → KeepsTrees b.work c.work → KeepsNames b.work.symbols c.work.symbols → Knows b.scope.libraries known → (IsUntouched d → IsBlank k) → (IsUntouched d → IsForgotten b c × (after ≡ total) × (to ≡ so_many)) → Ended b c unit place d total after so_many to budget k →
        AllSo c after (suc place) to (cs ++ k ∷ [])
    one_so c after to budget trees names knows blank same so = by a.rest refl (subst (λ (es : List code.Declared). AreDeclared b.work b.region unit place was es a.rest) next_is so_far.left)
      where
        none : IsUntouched d → AreDeclared b.work b.region unit (suc place) was (drop (suc place) ds) a.rest → AllSo c after (suc place) to (cs ++ k ∷ [])
        none un left =
            let f = (same un).0 in
            let stands = subst (λ (e : Bench). StandsOutside e (take (b.scope.root + 1) a.base.held.layout) was a.base.held.notes) f.same (f.stands a.base.held.layout was a.base.held.notes a.base.held.stands) in
            subst (λ (e : Bench). AllSo e after (suc place) to (cs ++ k ∷ [])) (sym f.same)
            (subst (λ (n : ℕ). AllSo (with_scope b c.scope) n (suc place) to (cs ++ k ∷ [])) (sym (same un).1)
            (subst (λ (n : ℕ). AllSo (with_scope b c.scope) total (suc place) n (cs ++ k ∷ [])) (sym (same un).2) (blank_so c.scope stands un (blank un) left)))

        by : (rest : List LeftOrKept) → a.rest ≡ rest → AreDeclared b.work b.region unit place was (d ∷ drop (suc place) ds) rest → AllSo c after (suc place) to (cs ++ k ∷ [])
        by [] is h = none h.0 (subst (λ (qs : List LeftOrKept). AreDeclared b.work b.region unit (suc place) was (drop (suc place) ds) qs) (sym is) h.1)
        by (r ∷ rest) is h = elim h [
          | inl un ↦ none un.0 (subst (λ (qs : List LeftOrKept). AreDeclared b.work b.region unit (suc place) was (drop (suc place) ds) qs) (sym is) un.2)
          | inr made ↦
              next_so c after trees names r rest (ap (λ (qs : List LeftOrKept). a.front ++ qs) (sym is) ∙ a.parted) is made.0 made.2 to budget
              (so known a.base.held.layout was a.base.held.notes r.left knows a.base.held.stands a.base.held.number made.1)
        ]

  -- all, or as many as it took
  none_left : (b : Bench) (t : ScopedState) (place : ℕ) (es : List code.Declared) (rest : List LeftOrKept) → es ≡ [] → AreDeclared b.work b.region unit place t es rest → rest ≡ []
  none_left b t place es rest none h = by rest (subst (λ (fs : List code.Declared). AreDeclared b.work b.region unit place t fs rest) none h)
    where
      by : (qs : List LeftOrKept) → AreDeclared b.work b.region unit place t [] qs → qs ≡ []
      by [] h = refl
      by (q ∷ qs) h = absurd h

  pub all_so : (b : Bench) (total place to : ℕ) (cs : List code_form.UnitForm) → AllSo b total place to cs → (nat_lt max_total total ≡ false → place ≡ length ds) → Finishes b unit known rs s total first to cs
  unfolding all_finished_formed
  all_so b total place to cs a all = record {
    layout = a.base.held.layout;
    last = a.base.held.state;
    notes = a.base.held.notes;
    stands = a.base.held.stands;
    comes = record {
      counted = a.counted;
      over = a.over;
      whole = λ few.
          let g = a.on few in
          let t = a.base.held.state in
          let none : a.rest ≡ [] = none_left b t place (drop place ds) a.rest (dropped_all ds place (all few)) g.left in (
            g.gone,
            g.goes ∙ (ap (λ (qs : List LeftOrKept). behind g.gone (to_come qs t)) none ∙ ap (λ (fs : List Formed). (Some fs, t)) (append-nil g.gone)),
            g.forms,
          );
    };
    definitions = λ few. (all_finished_formed b unit place ds cs (all few) a.base).definitions;
    steps = a.steps;
  }

-- the forms that were gone through, from each state that they may have left
abbrev pub AllFrom : (old b : Bench) (unit : ℕ) (ds : List code.Declared) (start total place : ℕ) (from to : ℕ) (cs : List code_form.UnitForm) → Type 0
AllFrom old b unit ds start total place from to cs = (known : Known) (h : FormsHeld old unit 0 ds) (rs : List LeftOrKept) → Knows old.scope.libraries known → (can : CanFinishAll old unit known rs h.state start ds) → AllSo known unit rs h.state can.rise ds from b total place to cs

pub none_from : (b : Bench) (unit : ℕ) (ds : List code.Declared) (start steps : ℕ) → AllFrom b b unit ds start start 0 steps steps []
none_from b unit ds start steps known h rs knows can = none_so known unit rs h.state can.rise ds steps b h start refl can

pub next_from : (old b c : Bench) (unit : ℕ) (ds : List code.Declared) (start total place : ℕ) (from now : ℕ) (cs : List code_form.UnitForm) → AllFrom old b unit ds start total place from now cs → Stays old b → Stays b c → nat_lt max_total total ≡ false →
    (d : code.Declared) → slice_get ds place ≡ Some d → (k : code_form.UnitForm) (after to : ℕ) (budget : Budget) → (IsUntouched d → IsBlank k) → (IsUntouched d → IsForgotten b c × (after ≡ total) × (to ≡ now)) → Ended b c unit place d total after now to budget k →
    AllFrom old c unit ds start after (suc place) from to (cs ++ k ∷ [])
next_from old b c unit ds start total place from now cs so stay stays few d at k after to budget blank same done known h rs knows can =
    one_so known unit rs h.state can.rise ds from b total place now cs (so known h rs knows can) few d at k c after to budget stays.trees stays.names (stay.libraries known knows) blank same done

pub all_from : (old b : Bench) (unit : ℕ) (ds : List code.Declared) (start total place : ℕ) (from to : ℕ) (cs : List code_form.UnitForm) → AllFrom old b unit ds start total place from to cs → (nat_lt max_total total ≡ false → place ≡ length ds) →
    (known : Known) (h : FormsHeld old unit 0 ds) (rs : List LeftOrKept) → Knows old.scope.libraries known → CanFinishAll old unit known rs h.state start ds → Finishes b unit known rs h.state total from to cs
all_from old b unit ds start total place from to cs so all known h rs knows can = all_so known unit rs h.state can.rise ds from b total place to cs (so known h rs knows can) all
