-- Forms that were gone through are held, one more at a time.
use Rattle.std.proofs.Common.{◌≡◌, ℕ, zero, suc, ◌+◌, ◌≤◌, ◌<◌, List, [], ◌∷◌, ◌++◌, drop, length, get_or, slice_get, Bool, true, false, cond, Option, Some, None, Ok, refl, sym, ap, ◌∙◌, subst, inl, inr, arith}
use Rattle.std.proofs.lemmas.List.{append_assoc, append-nil, length_push}
use Rattle.std.proofs.lemmas.Option.{slice_get_within, same_Some}
use Rattle.scheme_model.specs.Ident.{Ident as Identifier, Written}
use Rattle.scheme_model.specs.Trees.{Tree}
use Rattle.scheme_model.specs.Declarations.{UnitForm}
use Rattle.scheme_model.specs.ScopedProgram.{forms_over}
use Rattle.std.specs.Prelude.{nat_lt}
use Rattle.std.proofs.lemmas.Bool.{ltb-false}
use Rattle.scheme_model.specs.Order.{Pass, Note}
use Rattle.scheme_model.specs.Requirements.{Known}
use Rattle.scheme_model.specs.Substitution.{Defined}
use Rattle.scheme_model.specs.ScopedExpansion.{Frames, FramedIdent, ScopedState}
use Rattle.scheme_model.specs.UnitExpansion.{max_total, nodes_in}
use Rattle.scheme_model.specs.CountedExpansion.{counted}
use Rattle.kept_forms.specs.KeptForms.{LeftOrKept, counts_at}
use Rattle.forgotten_locals.specs.Outside.{forgotten}
use Rattle.forgotten_locals.specs.Ways.{firsts_by}
use Rattle.note_laws.specs.Searching.{none_kept}
use Rattle.macro_uses.specs.MacroUses.{total_of}
use Rattle.syntax_tree.proofs.Places.{none_some, push_cases}
use Rattle.core_tree.specs.Units.{defined_by}
use Rattle.datum_reader.specs.WellFormed.{WasRead}
use Rattle.datum_reader.specs.Views.{datum_of}
use Rattle.unit_sources.specs.UnitsRead.{form_of, forms_of}
use Rattle.unit_sources.specs.declared.units.UnitForm as source
use Rattle.feature_requirements.specs.Judged.{Knows}
use Rattle.unit_scopes.specs.Others.{InOrder}
use Rattle.unit_scopes.specs.Stepped.{IsFresh}
use Rattle.unit_scopes.specs.Forgotten.{OwnFirst}
use Rattle.unit_scopes.proofs.FreshLaws.{none_in_order}
use Rattle.expansion_laws.proofs.OtherForms.{declared_stays}
use Rattle.syntax_tree.specs.Works.{IsOpened}
use Rattle.form_expansion.specs.Ends.{numbers_of, Rise, IsAmong}
use Rattle.form_expansion.specs.Forms.{StandsOutside, IsBench, IsBegun, IsUntouched, IsDeclared, used_by, AreInOrder, PassesOutside, PassesForm, CanPass, FormsHeld, AreFresh, AreDeclared, Passes, Stays, passed, taken, known_by}
use Rattle.read_documents.specs.WereRead.{WereRead}
use Rattle.form_expansion.specs.declared.forms.Bench.{Bench}
use Rattle.form_expansion.specs.declared.forms.Declared as code
use Rattle.form_expansion.proofs.DeclaredForms.{declared_on, declared_blank, declared_more}
use Rattle.form_expansion.proofs.FormSteps.{blank_is, nothing_left}
use Rattle.form_expansion.proofs.UnitForms.{forms_rise, among, none_total, step_total, none_counted, step_counted}
use Rattle.form_expansion.proofs.UnitWalk.{behind, behind_none, behind_twice}
use Rattle.form_expansion.proofs.OutsideWalk.{way, pass_over, pass_on}

pub read_at : (fs : List source.UnitForm) (n : ℕ) (f : source.UnitForm) → WereRead (forms_of fs) → slice_get fs n ≡ Some f → f.declared ≡ false → WasRead (datum_of f.datum)
read_at [] n f h at = none_some f at
read_at (g ∷ fs) zero f h at = subst (λ (x : source.UnitForm). x.declared ≡ false → WasRead (datum_of x.datum)) (same_Some g f at) h.0
read_at (g ∷ fs) (suc n) f h at = read_at fs n f h.1 at

order_later : (first behind later : ℕ) → behind ≤ later → (ds : List Defined) → InOrder (λ (d : Defined). d.form) first behind ds → InOrder (λ (d : Defined). d.form) first later ds
order_later first behind later le [] h = tt
order_later first behind later le (d ∷ ds) h = let low : d.form < behind = h.1 in (h.0, omega (arith, low, le), h.2)

-- with nothing gone through
pub record Holds (b : Bench) (unit : ℕ) (ds : List code.Declared) : Type 0 where
  pub held : FormsHeld b unit 0 ds
  pub fresh : AreFresh (length ds) held.state

pub none_held : (b : Bench) (unit : ℕ) → IsBegun b unit → Holds b unit []
none_held b unit begun = record {
  held = record {
    layout = begun.layout;
    state = begun.state;
    notes = [];
    stands = begun.stands;
    number = begun.number;
    held = λ m d le at. none_some d at;
    in_order = none_in_order begun.state begun.fresh;
  };
  fresh = λ m le. begun.fresh m;
}

module _ (b : Bench) (unit : ℕ) (ds : List code.Declared) (h : Holds b unit ds) (d : code.Declared) where
  more : List code.Declared
  more = ds ++ d ∷ []

  longer : length (ds ++ d ∷ []) ≡ suc (length ds)
  longer = let e = length_push ds d in omega arith

  apart : (m : ℕ) (e : code.Declared) → slice_get ds m ≡ Some e → m ≡ length ds → ⊥
  apart m e at is = let low : m < length ds = slice_get_within ds m e at in omega (arith, low, is)

  -- one that isn't expanded
  pub blank_held : IsUntouched d → Holds b unit (ds ++ d ∷ [])
  blank_held none =
      let was = h.held in
      record {
        held = record {
          layout = was.layout;
          state = was.state;
          notes = was.notes;
          stands = was.stands;
          number = was.number;
          held = λ m e le at. elim (push_cases ds d m e at) [
            | inl old ↦ was.held m e le old
            | inr new ↦ (Ok nothing_left, subst (λ (x : code.Declared). IsDeclared b.work b.region unit m was.state x (Ok nothing_left)) (sym new.1) (blank_is b unit m was.state d none (h.fresh m (omega (arith, new.0)))))
          ];
          in_order = order_later 0 (length ds) (length (ds ++ d ∷ [])) (omega (arith, longer)) (defined_by was.state.unit was.state.table) was.in_order;
        };
        fresh = λ m le. h.fresh m (omega (arith, longer));
      }

  -- one that is
  pub next_held : (c : Bench) (p : Pass Identifier FramedIdent × ScopedState) → PassesOutside b c unit (length ds) h.held.state p d → Holds c unit (ds ++ d ∷ [])
  next_held c p n =
      let was = h.held in
      record {
        held = record {
          layout = n.layout;
          state = p.1;
          notes = p.0.notes;
          stands = n.stands;
          number = n.others.number;
          held = λ m e le at. elim (push_cases ds d m e at) [
            | inl old ↦ let x = was.held m e le old in (x.0, n.others.kept m e x.0 (apart m e old) x.1)
            | inr new ↦ (p.0.left, subst (λ (x : code.Declared). IsDeclared c.work c.region unit m p.1 x p.0.left) (sym new.1) (subst (λ (k : ℕ). IsDeclared c.work c.region unit k p.1 d p.0.left) (sym new.0) n.form_is))
          ];
          in_order = subst (λ (k : ℕ). AreInOrder k p.1) (sym longer) (n.others.in_order (length ds) (omega arith) was.in_order);
        };
        fresh = λ m le. n.others.fresh m (λ is. omega (arith, longer, is, le)) (h.fresh m (omega (arith, longer, le)));
      }

  -- either
  pub one_more : (c : Bench) (known : Known) (e : UnitForm) (blank : Bool) → (blank ≡ true → IsUntouched d) → (blank ≡ true → c ≡ b) →
      (blank ≡ false → PassesForm b c known unit (length ds) e h.held.notes h.held.state d) → Holds c unit (ds ++ d ∷ [])
  one_more c known e true none same passes = subst (λ (x : Bench). Holds x unit (ds ++ d ∷ [])) (sym (same refl)) (blank_held (none refl))
  one_more c known e false none same passes = next_held c (forgotten (passed known unit (length ds) e h.held.notes h.held.state)) (passes refl)

  pub next_form : (c : Bench) (n : ℕ) → n ≡ length ds → (f : source.UnitForm) → (f.declared ≡ true → IsUntouched d) → (f.declared ≡ true → c ≡ b) →
      ((known : Known) (ls : List Frames) (s : ScopedState) (notes : List (Note FramedIdent)) → f.declared ≡ false → Knows b.scope.libraries known → StandsOutside b ls s notes → s.unit ≡ unit → IsFresh s n →
      PassesForm b c known unit n (form_of f) notes s d) →
      Holds c unit (ds ++ d ∷ [])
  next_form c n at f blank same passes =
      let was = h.held in let known = known_by b.scope.libraries in
      one_more c known (form_of f) f.declared blank same
      (λ off. subst (λ (m : ℕ). PassesForm b c known unit m (form_of f) was.notes was.state d) at
      (passes known was.layout was.state was.notes off (λ l _. refl) was.stands was.number (h.fresh n (omega (arith, at)))))

-- the next form
pub read_next : (fs : List source.UnitForm) → WereRead (forms_of fs) → (k : ℕ) (d : source.UnitForm) → k < length fs → (get_or fs k d).declared ≡ false → WasRead (datum_of (get_or fs k d).datum)
read_next [] h k d low = absurd (omega (arith, low))
read_next (f ∷ fs) h zero d low = h.0
read_next (f ∷ fs) h (suc k) d low = read_next fs h.1 k d (omega (arith, low))

pub read_here : (fs : List source.UnitForm) → WereRead (forms_of fs) → (k : ℕ) (f : source.UnitForm) → k < length fs → f ≡ get_or fs k f → f.declared ≡ false → WasRead (datum_of f.datum)
read_here fs h k f low is = subst (λ (x : source.UnitForm). x.declared ≡ false → WasRead (datum_of x.datum)) (sym is) (read_next fs h k f low)

-- nodes of one form more
pub few_more : (total nodes : ℕ) → nat_lt max_total total ≡ false → nodes ≤ 200000 → total + nodes ≤ 700000
few_more total nodes large few = let below : total ≤ 500000 = ltb-false 500000 total large in omega (arith, below, few)

pub is_few : (total : ℕ) → nat_lt max_total total ≡ false → total ≤ max_total
is_few total large = ltb-false 500000 total large

-- the next form can be gone through
pub can_pass : (b : Bench) (unit : ℕ) (ds : List code.Declared) → OwnFirst b.scope → (h : Holds b unit ds) (form : ℕ) → length ds ≤ form → CanPass b unit form
can_pass b unit ds first h form le = record { layout = h.held.layout; state = h.held.state; notes = h.held.notes; stands = h.held.stands; first = first; number = h.held.number; fresh = h.fresh form le }

pub held_bench : (b : Bench) (unit place : ℕ) (ds : List code.Declared) → IsOpened b.work b.region → FormsHeld b unit place ds → IsBench b
held_bench b unit place ds region h = record { region = region; layout = h.layout; state = h.state; notes = h.notes; stands = h.stands }

-- ---- the definition's forms, as they are gone through

dropped_form : (fs : List source.UnitForm) (k : ℕ) (f : source.UnitForm) → k < length fs → f ≡ get_or fs k f → drop k (forms_of fs) ≡ form_of f ∷ drop (suc k) (forms_of fs)
dropped_form [] k f low is = absurd (omega (arith, low))
dropped_form (g ∷ fs) zero f low is = ap (λ (x : source.UnitForm). form_of x ∷ forms_of fs) (sym is)
dropped_form (g ∷ fs) (suc k) f low is = dropped_form fs k f (omega (arith, low)) is

pub dropped_all : (fs : List source.UnitForm) (k : ℕ) → length fs ≤ k → drop k (forms_of fs) ≡ []
dropped_all [] zero le = refl
dropped_all [] (suc k) le = refl
dropped_all (f ∷ fs) zero le = absurd (omega (arith, le))
dropped_all (f ∷ fs) (suc k) le = dropped_all fs k (omega (arith, le))

-- one form more
pub used_more : (ds : List code.Declared) (d : code.Declared) → used_by (ds ++ d ∷ []) ≡ used_by ds + d.so_far.budget.uses
used_more [] d = omega arith
used_more (e ∷ ds) d = let rest = used_more ds d in omega (arith, rest)

-- what a form counted that had counted nothing
counted_on : (now was total nodes before after : ℕ) → now + before ≡ was + after → was ≡ total → before ≡ 0 → nodes ≡ after → now ≡ total + nodes
counted_on now was total nodes before after moved so none all = omega (arith, moved, so, none, all)

module _ (known : Known) (unit : ℕ) (ts : List (ℕ × Tree Identifier)) (s : ScopedState) where
  abbrev whole : Option (List LeftOrKept) × ScopedState
  whole = firsts_by way known (numbers_of ts) (none_kept ts) [] s

  -- what is still to come of forms
  abbrev to_come : List (ℕ × Tree Identifier) → List (Note FramedIdent) → ScopedState → Option (List LeftOrKept) × ScopedState
  to_come rest notes t = firsts_by way known (numbers_of ts) (none_kept rest) notes t

  -- so many are gone through, these are left: work ended with the last where that made the nodes too many
  pub record PassedSo (b : Bench) (total : ℕ) (ds : List code.Declared) (place : ℕ) (left : List UnitForm) : Type 0 where
    pub base : Holds b unit ds
    pub front : List (ℕ × Tree Identifier)
    pub parted : front ++ forms_over (Written unit) unit place left ≡ ts
    pub gone : List LeftOrKept
    pub forms : AreDeclared b.work b.region unit 0 base.held.state ds gone
    pub counted : nodes_in (counted known) (numbers_of ts) base.held.state ≡ total
    pub over : nat_lt max_total total ≡ true → whole ≡ (None, base.held.state)
    pub on : nat_lt max_total total ≡ false → whole ≡ behind gone (to_come (forms_over (Written unit) unit place left) base.held.notes base.held.state)
    pub used : total_of base.held.state.uses (numbers_of ts) ≡ used_by ds

  pub none_passed : (b : Bench) (ls : List Frames) (left : List UnitForm) → forms_over (Written unit) unit 0 left ≡ ts → IsOpened b.work b.region → StandsOutside b ls s [] → OwnFirst b.scope → s.unit ≡ unit → ((m : ℕ) → IsFresh s m) → PassedSo b 0 [] 0 left
  unfolding none_held
  none_passed b ls left all region stands first own fresh = record {
    base = none_held b unit (record { region = region; layout = ls; state = s; stands = stands; first = first; number = own; fresh = fresh });
    front = [];
    parted = all;
    gone = [];
    forms = tt;
    counted = none_counted (counted known) s (λ m. (fresh m).nodes) (numbers_of ts);
    over = λ many. absurd cc;
    on = λ few. ap (λ (xs : List (ℕ × Tree Identifier)). to_come xs [] s) (sym all) ∙ sym (behind_none (to_come (forms_over (Written unit) unit 0 left) [] s));
    used = none_total s.uses (λ m. (fresh m).uses) (numbers_of ts);
  }

  module _ (b : Bench) (total place : ℕ) (ds : List code.Declared) (f : source.UnitForm) (left : List UnitForm) (a : PassedSo b total ds place (form_of f ∷ left)) (at : place ≡ length ds) (d : code.Declared) where
    abbrev was : ScopedState
    was = a.base.held.state

    abbrev tree : ℕ × Tree Identifier
    tree = (place, taken unit place (form_of f))

    abbrev others : List (ℕ × Tree Identifier)
    others = forms_over (Written unit) unit (suc place) left

    abbrev by_declared : Bool → Option (List LeftOrKept) × ScopedState
    by_declared q = behind a.gone (to_come (cond q others (tree ∷ others)) a.base.held.notes was)

    -- one that isn't expanded
    blank_so : f.declared ≡ true → IsUntouched d → PassedSo b (total + d.so_far.budget.nodes) (ds ++ d ∷ []) (suc place) left
    unfolding blank_held
    blank_so off none =
        let same : total ≡ total + d.so_far.budget.nodes = let e = none.nodes in omega (arith, e) in
        record {
          base = blank_held b unit ds a.base d none;
          front = a.front;
          parted = ap (λ (q : Bool). a.front ++ cond q others (tree ∷ others)) (sym off) ∙ a.parted;
          gone = a.gone;
          forms = declared_blank b.work b.region unit was 0 ds a.gone d a.forms none;
          counted = a.counted ∙ same;
          over = λ many. a.over (ap (nat_lt max_total) same ∙ many);
          on = λ few. a.on (ap (nat_lt max_total) same ∙ few) ∙ ap by_declared off;
          used = let was_used = a.used in let one = used_more ds d in let nothing = none.uses in omega (arith, was_used, one, nothing);
        }

    -- one that is
    module _ (rise : Rise 0 (numbers_of ts)) (off : f.declared ≡ false) (few : nat_lt max_total total ≡ false) (c : Bench) (n : PassesForm b c known unit place (form_of f) a.base.held.notes was d) where
      abbrev now : Pass Identifier FramedIdent × ScopedState
      now = forgotten (passed known unit place (form_of f) a.base.held.notes was)

      abbrev row : LeftOrKept
      row = record { form = place; counts = counts_at place now.1; left = now.0.left; kept = None }

      parted_so : (a.front ++ tree ∷ []) ++ others ≡ ts
      parted_so = append_assoc a.front (tree ∷ []) others ∙ (ap (λ (q : Bool). a.front ++ cond q others (tree ∷ others)) (sym off) ∙ a.parted)

      counted_so : nodes_in (counted known) (numbers_of ts) now.1 ≡ total + d.so_far.budget.nodes
      counted_so =
          let here : IsAmong place (numbers_of ts) = subst (λ (xs : List (ℕ × Tree Identifier)). IsAmong place (numbers_of xs)) (sym (append_assoc a.front (tree ∷ []) others) ∙ parted_so) (among a.front others tree) in
          let stay = declared_stays place known (taken unit place (form_of f)) a.base.held.notes was in
          counted_on (nodes_in (counted known) (numbers_of ts) now.1) (nodes_in (counted known) (numbers_of ts) was) total d.so_far.budget.nodes (was.nodes place) (now.1.nodes place)
          (step_counted (counted known) place was now.1 (λ m apart. (stay.counts m apart).nodes) 0 (numbers_of ts) rise here) a.counted (a.base.fresh place (omega (arith, at))).nodes n.form_is.counts.nodes

      used_so : total_of now.1.uses (numbers_of ts) ≡ used_by (ds ++ d ∷ [])
      used_so =
          let here : IsAmong place (numbers_of ts) = subst (λ (xs : List (ℕ × Tree Identifier)). IsAmong place (numbers_of xs)) (sym (append_assoc a.front (tree ∷ []) others) ∙ parted_so) (among a.front others tree) in
          let stay = declared_stays place known (taken unit place (form_of f)) a.base.held.notes was in
          counted_on (total_of now.1.uses (numbers_of ts)) (total_of was.uses (numbers_of ts)) (used_by ds) d.so_far.budget.uses (was.uses place) (now.1.uses place)
          (step_total place was.uses now.1.uses (λ m apart. (stay.counts m apart).uses) 0 (numbers_of ts) rise here) a.used (a.base.fresh place (omega (arith, at))).uses n.form_is.counts.uses
          ∙ sym (used_more ds d)

      before_it : whole ≡ behind a.gone (to_come (tree ∷ others) a.base.held.notes was)
      before_it = a.on few ∙ ap by_declared off

      next_so : PassedSo c (total + d.so_far.budget.nodes) (ds ++ d ∷ []) (suc place) left
      unfolding next_held
      next_so = record {
        base = next_held b unit ds a.base d c now (subst (λ (m : ℕ). PassesOutside b c unit m was now d) at n);
        front = a.front ++ tree ∷ [];
        parted = parted_so;
        gone = a.gone ++ row ∷ [];
        forms = declared_more c.work c.region unit now.1 0 ds a.gone d row (omega (arith, at))
            (declared_on b c unit 0 place was now.1 (λ m e r from low is. n.others.kept m e r (λ same. omega (arith, low, same)) is) 0 ds a.gone (omega arith) (omega (arith, at)) a.forms) n.form_is;
        counted = counted_so;
        over = λ many. before_it ∙ ap (behind a.gone) (pass_over known (numbers_of ts) tree others a.base.held.notes was (ap (nat_lt max_total) counted_so ∙ many));
        on = λ still.
            before_it ∙ ap (behind a.gone) (pass_on known (numbers_of ts) tree others a.base.held.notes was (ap (nat_lt max_total) counted_so ∙ still))
            ∙ behind_twice a.gone (row ∷ []) (to_come others now.0.notes now.1);
        used = used_so;
      }

    -- either
    pub one_so : Rise 0 (numbers_of ts) → nat_lt max_total total ≡ false → (c : Bench) → (f.declared ≡ true → IsUntouched d) → (f.declared ≡ true → c ≡ b) →
        (f.declared ≡ false → PassesForm b c known unit place (form_of f) a.base.held.notes was d) → PassedSo c (total + d.so_far.budget.nodes) (ds ++ d ∷ []) (suc place) left
    one_so rise few c blank same passes = by f.declared refl
      where
        by : (q : Bool) → f.declared ≡ q → PassedSo c (total + d.so_far.budget.nodes) (ds ++ d ∷ []) (suc place) left
        by true off = subst (λ (e : Bench). PassedSo e (total + d.so_far.budget.nodes) (ds ++ d ∷ []) (suc place) left) (sym (same off)) (blank_so off (blank off))
        by false off = next_so rise off few c (passes off)

  pub all_passed : (b : Bench) (total place : ℕ) (ds : List code.Declared) (left : List UnitForm) → PassedSo b total ds place left → (nat_lt max_total total ≡ false → left ≡ []) → Passes b unit known ts s total ds
  all_passed b total place ds left a all = record {
    held = a.base.held;
    comes = record {
      counted = a.counted;
      over = a.over;
      whole = λ few. (
        a.gone,
        a.on few ∙ ap (λ (fs : List UnitForm). behind a.gone (to_come (forms_over (Written unit) unit place fs) a.base.held.notes a.base.held.state)) (all few)
            ∙ ap (λ (rs : List LeftOrKept). (Some rs, a.base.held.state)) (append-nil a.gone),
        a.forms,
      );
    };
    used = a.used;
  }

-- the forms that are expanded, from each state that they may begin in
abbrev pub PassedFrom : (old b : Bench) (unit total place : ℕ) → List source.UnitForm → List code.Declared → Type 0
PassedFrom old b unit total place fs ds = (known : Known) (ls : List Frames) (s : ScopedState) → Knows old.scope.libraries known → StandsOutside old ls s [] → s.unit ≡ unit → ((form : ℕ) → IsFresh s form) →
    PassedSo known unit (forms_over (Written unit) unit 0 (forms_of fs)) s b total ds place (drop place (forms_of fs))

pub none_from : (b : Bench) (unit : ℕ) (fs : List source.UnitForm) → IsOpened b.work b.region → OwnFirst b.scope → PassedFrom b b unit 0 0 fs []
none_from b unit fs region first known ls s knows stands own fresh = none_passed known unit (forms_over (Written unit) unit 0 (forms_of fs)) s b ls (forms_of fs) refl region stands first own fresh

pub next_from : (old b c : Bench) (unit total place : ℕ) (fs : List source.UnitForm) (ds : List code.Declared) → PassedFrom old b unit total place fs ds → Stays old b → place ≡ length ds → nat_lt max_total total ≡ false →
    (d : code.Declared) (n : ℕ) → n ≡ place → (f : source.UnitForm) → place < length fs → f ≡ get_or fs place f → (f.declared ≡ true → IsUntouched d) → (f.declared ≡ true → c ≡ b) →
    ((known : Known) (ls : List Frames) (s : ScopedState) (notes : List (Note FramedIdent)) → f.declared ≡ false → Knows b.scope.libraries known → StandsOutside b ls s notes → s.unit ≡ unit → IsFresh s n →
    PassesForm b c known unit n (form_of f) notes s d) →
    PassedFrom old c unit (total + d.so_far.budget.nodes) (suc place) fs (ds ++ d ∷ [])
next_from old b c unit total place fs ds so stay at few d n same_n f low is blank same passes known ls s knows stands own fresh =
    let ts = forms_over (Written unit) unit 0 (forms_of fs) in
    let a : PassedSo known unit ts s b total ds place (form_of f ∷ drop (suc place) (forms_of fs)) =
    subst (λ (left : List UnitForm). PassedSo known unit ts s b total ds place left) (dropped_form fs place f low is) (so known ls s knows stands own fresh) in
    let was = a.base.held in
    one_so known unit ts s b total place ds f (drop (suc place) (forms_of fs)) a at d (forms_rise (Written unit) unit 0 (forms_of fs)) few c blank same
    (λ off. subst (λ (m : ℕ). PassesForm b c known unit m (form_of f) was.notes was.state d) same_n
    (passes known was.layout was.state was.notes off (stay.libraries known knows) was.stands was.number (a.base.fresh n (omega (arith, same_n, at)))))
