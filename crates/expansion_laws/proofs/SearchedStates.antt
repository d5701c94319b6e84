-- Expansion by scopes, where a definition asks the notes that speak of its identifier: while each local is counted, it defines as ever.
use Rattle.std.proofs.Common.{◌≡◌, ℕ, suc, List, [], ◌∷◌, Bool, true, false, cond, Option, Some, None, Result, Ok, Err, refl, sym, ap, subst, ◌+◌}
use Rattle.scheme_model.specs.Identifiers.{Number, same_number}
use Rattle.scheme_model.specs.Ident.{Ident}
use Rattle.scheme_model.specs.ExpansionFaults.{Named, Fault, KeywordRedefined, Duplicate}
use Rattle.scheme_model.specs.Meaning.{Meaning, Local, Global, same_meaning}
use Rattle.scheme_model.specs.Requirements.{Known}
use Rattle.scheme_model.specs.RulesShape.{Rules}
use Rattle.scheme_model.specs.Cores.{Target, MacroUse}
use Rattle.scheme_model.specs.Order.{Pending, Renamed, Transformer, is_some}
use Rattle.scheme_model.specs.Substitution.{Clock, at_form, any, unchanged}
use Rattle.scheme_model.specs.ScopedExpansion.{Frames, BodyDefinition, FramedIdent, ScopedMacro, ScopedState, around, next_number, macro_at, macro_added, body_around, definition_added, meaning_next, is_defined, refused_now, scoped}
use Rattle.unit_scopes.specs.Searched.{speaks_of}
use Rattle.scheme_model.proofs.OpenBodies.{Leq, Before as Counted}
use Rattle.scheme_model.proofs.Clocks.{leq_itself, leq_then, leq_counted, next_counted}
use Rattle.model_laws.proofs.FrameEras.{Era, Before, before_more, unit_worked}
use Rattle.model_laws.proofs.FrameAsks.{AllOf, all_of_more, BindersCounted}
use Rattle.model_laws.proofs.FrameHeads.{IfMacro}
use Rattle.model_laws.proofs.FrameStates.{binders_more}
use Rattle.model_laws.proofs.CountedForms.{OkAll}
use Rattle.model_laws.proofs.CountedUnits.{defined_unless, refused_by_number}
use Rattle.expansion_laws.proofs.AlikeSteps.{Likeness}
use Rattle.expansion_laws.proofs.BoundedNotes.{Bounded, any_spoken}

module _ (w : Era) where
  abbrev Fits : ScopedState → Frames → Type 0
  Fits s fs = BindersCounted w s.locals fs

  -- more locals are counted
  pub locals_more : (s : ScopedState) → Bounded w s → (n : Clock) → Leq s.locals n → Bounded w (record s { locals = n })
  locals_more s g n le = record {
    unit = g.unit;
    definitions = all_of_more (λ (d : BodyDefinition). Before w s.locals d.binder) (λ (d : BodyDefinition). Before w n d.binder) (λ d e. before_more w s.locals n le d.binder e) s.definitions g.definitions;
    places = λ k. binders_more w s.locals n le (around s.places k) (g.places k);
    macros = all_of_more (λ (k : ScopedMacro). BindersCounted w s.locals k.frames) (λ (k : ScopedMacro). BindersCounted w n k.frames) (λ k e. binders_more w s.locals n le k.frames e) s.macros g.macros;
    entries = g.entries;
  }

  pub next_old : (s : ScopedState) → Bounded w s → Before w (at_form s.form suc s.locals) (next_number s s.locals)
  next_old s g = (
    subst (Counted w.unit (at_form s.form suc s.locals)) (ap (λ (u : ℕ). record { unit = u; form = s.form; count = s.locals s.form }) (sym g.unit)) (next_counted w.unit s.form s.locals),
    unit_worked w s.unit g.unit,
  )

  -- the form that is at work
  pub turned_bounded : (s : ScopedState) → Bounded w s → (form : ℕ) → Bounded w (record s { form = form })
  turned_bounded s g form = record { unit = g.unit; definitions = g.definitions; places = g.places; macros = g.macros; entries = g.entries }

  pub still : (s : ScopedState) → Bounded w s → (x : Clock) (y : ℕ → List Target) (z : ℕ → List MacroUse) (b : Clock) → Bounded w (record s { nodes = x; keywords = y; met = z; bodies = b })
  still s g x y z b = record { unit = g.unit; definitions = g.definitions; places = g.places; macros = g.macros; entries = g.entries }

  pub begun : (s : ScopedState) → Bounded w s → (fs : Frames) → Fits s fs → Bounded w (record s { uses = at_form s.form suc s.uses; places = record { use_number = next_number s s.uses; frames = fs } ∷ s.places })
  begun s g fs h = record { unit = g.unit; definitions = g.definitions; places = λ k. go k (same_number (next_number s s.uses) k); macros = g.macros; entries = g.entries }
    where
      go : (k : Number) (t : Bool) → BindersCounted w s.locals (cond t fs (around s.places k))
      go k true = h
      go k false = g.places k

  pub kept : (s : ScopedState) → Bounded w s → (fs : Frames) → Fits s fs → (m : Meaning) (r : Rules Ident) → Bounded w (record s { macros = record { meaning = m; frames = fs; rules = r } ∷ s.macros })
  kept s g fs h m r = record { unit = g.unit; definitions = g.definitions; places = g.places; macros = (h, g.macros); entries = g.entries }

  pub among : (n : Clock) (ks : List ScopedMacro) → AllOf (λ (k : ScopedMacro). BindersCounted w n k.frames) ks → (m : Meaning) → IfMacro (λ (t : Transformer Frames Ident). BindersCounted w n t.env) (macro_at ks m)
  among n [] h m = tt
  among n (k ∷ ks) h m = go (same_meaning k.meaning m) (among n ks h.1 m)
    where
      go : (t : Bool) → IfMacro (λ (t : Transformer Frames Ident). BindersCounted w n t.env) (macro_at ks m) → IfMacro (λ (t : Transformer Frames Ident). BindersCounted w n t.env) (cond t (Some (record { env = k.frames; rules = k.rules })) (macro_at ks m))
      go true q = h.0
      go false q = q

  added : (s : ScopedState) → Bounded w s → (m : Meaning) (fs : Frames) → Fits s fs → (r : Option (Rules Ident)) → Bounded w (record s { macros = macro_added m fs r s.macros })
  added s g m fs h None = record { unit = g.unit; definitions = g.definitions; places = g.places; macros = g.macros; entries = g.entries }
  added s g m fs h (Some r) = kept s g fs h m r

  -- ---- a definition

  then_bounded : (s : ScopedState) → Bounded w s → (fs : Frames) → Fits s fs → (b : Option Number) (n : Named Ident) (r : Option (Rules Ident)) → Bounded w (definition_added b n r fs s) × Leq s.locals (definition_added b n r fs s).locals
  then_bounded s g fs h None n r =
      let a = added s g (Global s.unit n.name) fs h r in
      (record { unit = g.unit; definitions = g.definitions; places = g.places; macros = a.macros; entries = g.entries }, leq_itself s.locals)
  then_bounded s g fs h (Some b) n r =
      let le = leq_counted s.form s.locals in
      let c = locals_more s g (at_form s.form suc s.locals) le in
      let a = added (record s { locals = at_form s.form suc s.locals }) c (Local (next_number s s.locals)) fs (binders_more w s.locals (at_form s.form suc s.locals) le fs h) r in
      (record { unit = g.unit; definitions = (next_old s g, c.definitions); places = c.places; macros = a.macros; entries = g.entries }, le)

  pub defined_bounded : (s : ScopedState) → Bounded w s → (fs : Frames) → Fits s fs → (b : Option Number) (n : Named Ident) (r : Option (Rules Ident)) (p : Pending Ident FramedIdent) (refused twice : Bool)
      → let q = cond {A = Result (Renamed Ident FramedIdent) (Fault Ident) × ScopedState} refused (Err (KeywordRedefined n), s) (cond twice (Err (Duplicate n), s) (Ok (unchanged p), definition_added b n r fs s)) in Bounded w q.1 × Leq s.locals q.1.locals
  defined_bounded s g fs h b n r p true twice = (g, leq_itself s.locals)
  defined_bounded s g fs h b n r p false true = (g, leq_itself s.locals)
  defined_bounded s g fs h b n r p false false = then_bounded s g fs h b n r

  pub left_same : (s t : ScopedState) (n : Named Ident) (p : Pending Ident FramedIdent) (refused twice : Bool) → OkAll (λ (d : Renamed Ident FramedIdent). d.pending.notes ≡ p.notes) (cond {A = Result (Renamed Ident FramedIdent) (Fault Ident) × ScopedState} refused (Err (KeywordRedefined n), s) (cond twice (Err (Duplicate n), s) (Ok (unchanged p), t))).0
  left_same s t n p true twice = tt
  left_same s t n p false true = tt
  left_same s t n p false false = refl

  abbrev pub searching : (known : Known) → Likeness (scoped known)
  searching known = record {
    define = λ n r fs p s. defined_unless (any (refused_by_number speaks_of (body_around fs) n r fs s) p.notes) (body_around fs) n r fs p s;
    good = Bounded w;
    fits = Fits;
    noted = λ s l. Fits s l.frames;
    defines = λ fs. Unit {0};
    inside = λ s fs ts. tt;
    later = λ s t. Leq s.locals t.locals;
    itself = λ s. leq_itself s.locals;
    then_ = λ s t u a b. leq_then s.locals t.locals u.locals a b;
    fits_later = λ s t le fs h. binders_more w s.locals t.locals le fs h;
    noted_later = λ s t le l h. binders_more w s.locals t.locals le l.frames h;
    placed = λ s fs h i. h;
    spend = λ s g n. (still s g (at_form s.form (λ m. m + n) s.nodes) s.keywords s.met s.bodies, leq_itself s.locals);
    spend_means = λ s n fs i. refl;
    meet = λ s g t. (still s g s.nodes (at_form s.form (λ ts. t ∷ ts) s.keywords) s.met s.bodies, leq_itself s.locals);
    meet_use = λ s g u. (still s g s.nodes s.keywords (at_form s.form (λ us. u ∷ us) s.met) s.bodies, leq_itself s.locals);
    begin_use = λ s g fs h. (begun s g fs h, leq_itself s.locals);
    take_local = λ s g. (locals_more s g (at_form s.form suc s.locals) (leq_counted s.form s.locals), leq_counted s.form s.locals);
    bind = λ s g fs h x ts. (
      (locals_more s g (at_form s.form suc s.locals) (leq_counted s.form s.locals), leq_counted s.form s.locals),
      (next_old s g, binders_more w s.locals (at_form s.form suc s.locals) (leq_counted s.form s.locals) fs h),
    );
    keep = λ s g fs h v r. (kept s g fs h (Local v) r, leq_itself s.locals);
    enter = λ s g fs h ts. ((still s g s.nodes s.keywords s.met (at_form s.form suc s.bodies), leq_itself s.locals), h);
    transformer = λ s g m. among s.locals s.macros g.macros m;
    same = λ s g fs defines h n r p ns. ap (λ t. defined_unless t (body_around fs) n r fs p s) (any_spoken w s g n r fs (body_around fs) p.notes ns);
    defined = λ s g fs defines h n r p. defined_bounded s g fs h (body_around fs) n r p (any (refused_now (definition_added (body_around fs) n r fs s) (meaning_next s (body_around fs) n.name) (is_some r)) p.notes) (is_defined s (body_around fs) n.name);
    left = λ s fs n r p. left_same s (definition_added (body_around fs) n r fs s) n p (any (refused_now (definition_added (body_around fs) n r fs s) (meaning_next s (body_around fs) n.name) (is_some r)) p.notes) (is_defined s (body_around fs) n.name);
  }
