-- What calls leave of a bench adds up, and units stand in a work that has grown.
use Rattle.std.proofs.Common.{◌≡◌, ℕ, ◌+◌, ◌≤◌, List, take, refl, sym, ap, ◌∙◌, subst}
use Rattle.std.specs.BTreeSet.{contains_text}
use Rattle.std.specs.FinMap as map
use Rattle.std.specs.Ordering.{nat_cmp}
use Rattle.std.proofs.lemmas.Option.{same_Some}
use Rattle.scheme_model.specs.Order.{Note}
use Rattle.scheme_model.specs.ScopedExpansion.{Frames, FramedIdent, ScopedState}
use Rattle.syntax_tree.specs.Names.{KeepsNames, AreToldApart}
use Rattle.syntax_tree.specs.Works.{IsOpened, KeepsTrees, SameRegions, AddsIn}
use Rattle.syntax_tree.specs.declared.trees.Work.{Work}
use Rattle.syntax_tree.specs.declared.trees.table.Region.{Region}
use Rattle.feature_requirements.specs.Judged.{library_text}
use Rattle.forgotten_locals.specs.Outside.{outside}
use Rattle.root_laws.specs.AtRoot.{AllAtRoot}
use Rattle.root_laws.proofs.RootStates.{forgets, nothing_local, macros_root}
use Rattle.unit_scopes.specs.Forgotten.{ForgetsLocals, MacrosAtRoot, AreAtRoot, AllOwn, OwnFirst, without_local_scopes}
use Rattle.unit_scopes.specs.Outcomes.{Grows}
use Rattle.unit_scopes.specs.Units.{UnitStands}
use Rattle.unit_scopes.specs.declared.scope.UnitScope.{UnitScope}
use Rattle.unit_scopes.proofs.ImportLaws.{same_trees}
use Rattle.unit_scopes.proofs.OutcomeLaws.{grows_itself, grows_on}
use Rattle.standard_scopes.proofs.Growing.{stands_on}
use Rattle.form_expansion.specs.Forms.{IsBench, StandsOutside, Stays, IsTurned, IsForgotten}
use Rattle.form_expansion.specs.declared.forms.Bench.{Bench}
use Rattle.form_expansion.proofs.FormAtWork.{unit_apart}

-- the scopes of units are the same, and so is the open unit's own
own_first : (u v : UnitScope) → v.env.roots ≡ u.env.roots → v.root ≡ u.root → OwnFirst u → OwnFirst v
own_first u v roots root h = record {
  older = λ n le. let o = h.older n (subst (λ (r : ℕ). n ≤ r) root le) in (o.0, ap (λ (m : map.FinMap nat_cmp ℕ). map.get m o.0) roots ∙ o.1);
  newest = λ w n at. subst (λ (r : ℕ). n ≤ r) (sym root) (h.newest w n (ap (λ (m : map.FinMap nat_cmp ℕ). map.get m w) (sym roots) ∙ at));
}

pub same_root : (w x : Work) (u v : UnitScope) (ls ms : List Frames) (s t : ScopedState) (notes more : List (Note FramedIdent)) → UnitStands w u ls s notes → UnitStands x v ms t more → t.unit ≡ s.unit → v.env.roots ≡ u.env.roots → v.root ≡ u.root
same_root w x u v ls ms s t notes more h k own roots =
    let same : v.unit ≡ u.unit = k.rests.unit ∙ own ∙ sym h.rests.unit in
    same_Some v.root u.root (sym k.rests.own ∙ ap (λ (m : map.FinMap nat_cmp ℕ). map.get m v.unit) roots ∙ ap (map.get u.env.roots) same ∙ h.rests.own)

pub stays_by : (b c : Bench) → IsOpened b.work b.region → c.region ≡ b.region → KeepsTrees b.work c.work → KeepsNames b.work.symbols c.work.symbols → AddsIn b.work c.work b.region → SameRegions b.work c.work →
    c.scope.env.roots ≡ b.scope.env.roots → c.scope.root ≡ b.scope.root → c.scope.libraries ≡ b.scope.libraries → Stays b c
stays_by b c opened same trees names added regions roots root libraries = record {
  trees = trees;
  names = names;
  region = same;
  opened = subst (λ (r : Region). IsOpened c.work r) (sym same) (trees.regions b.region opened);
  added = added;
  regions = regions;
  others = λ v new. ap (λ (m : map.FinMap nat_cmp ℕ). map.get m v) roots ∙ new;
  libraries = λ known knows n written. knows n written ∙ ap (λ l. contains_text l (library_text n)) (sym libraries);
  first = λ own. own_first b.scope c.scope roots root own;
}

pub stays_itself : (b : Bench) → IsOpened b.work b.region → Stays b b
stays_itself b opened =
    let g = grows_itself b.work b.region in
    stays_by b b opened refl g.trees g.names g.added g.regions refl refl refl

pub stays_on : (b c d : Bench) → Stays b c → Stays c d → Stays b d
stays_on b c d first next =
    let g = grows_on b.work c.work d.work b.region
    (record { trees = first.trees; names = first.names; regions = first.regions; added = first.added })
    (record { trees = next.trees; names = next.names; regions = next.regions; added = subst (λ (r : Region). AddsIn c.work d.work r) first.region next.added }) in
    record {
      trees = g.trees;
      names = g.names;
      region = next.region ∙ first.region;
      opened = next.opened;
      added = g.added;
      regions = g.regions;
      others = λ v new. next.others v (first.others v new);
      libraries = λ known knows. next.libraries known (first.libraries known knows);
      first = λ own. next.first (first.first own);
    }

-- in a work that has grown
pub stands_in : (b : Bench) (w : Work) → KeepsTrees b.work w → KeepsNames b.work.symbols w.symbols → AreToldApart w.symbols.idents → AreToldApart w.symbols.symbols → (ls : List Frames) (s : ScopedState) (notes : List (Note FramedIdent)) → StandsOutside b ls s notes →
    StandsOutside (record b { work = w }) ls s notes
stands_in b w trees names apart told ls s notes h =
    record { stands = stands_on b.work w trees names apart told b.scope ls s notes h.stands; outside = h.outside; macros = h.macros; notes = h.notes; own = h.own }

-- names alone were added
pub bench_in : (b : Bench) (w : Work) → w.trees ≡ b.work.trees → KeepsNames b.work.symbols w.symbols → AreToldApart w.symbols.idents → AreToldApart w.symbols.symbols → IsBench b → IsBench (record b { work = w })
bench_in b w trees names apart told h =
    let keeps = same_trees b.work w trees names in
    record { region = keeps.regions b.region h.region; layout = h.layout; state = h.state; notes = h.notes; stands = stands_in b w keeps names apart told h.layout h.state h.notes h.stands }

-- ---- what is local is forgotten

-- the call that forgets what is local leaves these scopes
pub record Forgets (b : Bench) (u : UnitScope) : Type 0 where
  pub roots : u.env.roots ≡ b.scope.env.roots
  pub root : u.root ≡ b.scope.root
  pub libraries : u.libraries ≡ b.scope.libraries
  pub own : AllOwn u
  pub rests : (work : Work) (ls : List Frames) (s t : ScopedState) (notes : List (Note FramedIdent)) → UnitStands work b.scope ls s notes → ForgetsLocals s t → MacrosAtRoot s → AreAtRoot notes →
      UnitStands work u (take (b.scope.root + 1) ls) t notes

pub forgets_by : (b : Bench) (u : UnitScope) → u ≡ without_local_scopes b.scope u.macros u.asked → AllOwn u →
    ((work : Work) (ls : List Frames) (s t : ScopedState) (notes : List (Note FramedIdent)) → UnitStands work b.scope ls s notes → ForgetsLocals s t → MacrosAtRoot s → AreAtRoot notes → UnitStands work u (take (b.scope.root + 1) ls) t notes) → Forgets b u
forgets_by b u is own rests = record {
  roots = ap (λ (v : UnitScope). v.env.roots) is;
  root = ap (λ (v : UnitScope). v.root) is;
  libraries = ap (λ (v : UnitScope). v.libraries) is;
  own = own;
  rests = rests;
}

pub stands_outside : (b : Bench) (u : UnitScope) → Forgets b u → (ls : List Frames) (s : ScopedState) (notes : List (Note FramedIdent)) → UnitStands b.work b.scope ls s notes → AllAtRoot (outside s) → AreAtRoot notes →
    StandsOutside (record b { scope = u }) (take (b.scope.root + 1) ls) (outside s) notes
stands_outside b u f ls s notes h macros root = record {
  stands = f.rests b.work ls s (outside s) notes h (forgets s) (macros_root s macros) root;
  outside = nothing_local s;
  macros = macros;
  notes = root;
  own = f.own;
}

-- where nothing but the form at work is another before
pub forgotten_same : (b c : Bench) (u : UnitScope) → IsTurned b c → Forgets c u → IsForgotten b (record c { scope = u })
forgotten_same b c u same f = record {
  same = ap (λ (d : Bench). record d { scope = u }) same;
  stands = λ ls s notes h.
      let turned : UnitStands c.work c.scope ls s notes = subst (λ (d : Bench). UnitStands d.work d.scope ls s notes) (sym same) (unit_apart b.work b.scope c.scope.form ls s notes h.stands) in
      let root : c.scope.root ≡ b.scope.root = ap (λ (d : Bench). d.scope.root) same in
      subst (λ (n : ℕ). StandsOutside (record c { scope = u }) (take (n + 1) ls) s notes) root
      (subst (λ (t : ScopedState). StandsOutside (record c { scope = u }) (take (c.scope.root + 1) ls) t notes) h.outside
      (stands_outside c u f ls s notes turned (subst AllAtRoot (sym h.outside) h.macros) h.notes));
}

pub stays_forgotten : (b : Bench) (u : UnitScope) → IsOpened b.work b.region → Forgets b u → Stays b (record b { scope = u })
stays_forgotten b u opened f =
    let g = grows_itself b.work b.region in
    stays_by b (record b { scope = u }) opened refl g.trees g.names g.added g.regions f.roots f.root f.libraries

-- ---- what a work keeps, whatever a call answers

pub grows_by : (b c : Bench) → Stays b c → Grows b.work c.work b.region
grows_by b c h = record { trees = h.trees; names = h.names; regions = h.regions; added = h.added }

-- a call behind others, in their region
pub grows_behind : (b c : Bench) (w : Work) → Grows b.work c.work b.region → c.region ≡ b.region → Grows c.work w c.region → Grows b.work w b.region
grows_behind b c w first same next = grows_on b.work c.work w b.region first (subst (λ (r : Region). Grows c.work w r) same next)

pub grows_then : (b c : Bench) (w : Work) → Stays b c → Grows c.work w c.region → Grows b.work w b.region
grows_then b c w first next = grows_behind b c w (grows_by b c first) first.region next
