-- How steps follow one another while what is asked is noted: what each leaves adds up, and a fault ends what comes behind it.
use Rattle.std.proofs.Common.{◌≡◌, List, Result, Ok, Err, refl, sym, ap, subst, arith}
use Rattle.scheme_model.specs.Steps.{Broken, Step, ◌>>=◌}
use Rattle.scheme_model.specs.ScopedExpansion.{Frames}
use Rattle.syntax_tree.specs.declared.trees.Work.{Work}
use Rattle.syntax_tree.specs.declared.trees.table.Region.{Region}
use Rattle.feature_requirements.specs.declared.fault.ExpandFault.{ExpandFault}
use Rattle.feature_requirements.specs.declared.fault.ExpandFault.TheVariants as fault
use Rattle.unit_scopes.specs.Outcomes.{Leaves, MayFill}
use Rattle.unit_scopes.specs.declared.scope.UnitScope.{UnitScope}
use Rattle.unit_scopes.proofs.OutcomeLaws.{grows_itself, grows_on, numbers_stay, same_itself, same_on}
use Rattle.noted_steps.specs.Noting.{Noting}
use Rattle.noted_steps.specs.Standing.{Stands, with_notes}
use Rattle.noted_steps.specs.Outcomes.{Stays, Moves, Ends, EndsHere}

pub stays_itself : (a : Work) (region : Region) (u : UnitScope) (ls : List Frames) (s : Noting) → Stands a u ls s → Stays a a region u u ls s
stays_itself a region u ls s e = record { stands = e; work = grows_itself a region; counted = omega arith; same = same_itself u }

-- notes alone were added
pub noted_stays : (a : Work) (region : Region) (u v : UnitScope) (ls : List Frames) (s t : Noting) → Stands a u ls s → v ≡ with_notes u v.form.trace.notes → Stands a v ls t → Stays a a region u v ls t
noted_stays a region u v ls s t e same h =
    subst (λ (x : UnitScope). Stays a a region u x ls t) (sym same) (record {
      stands = subst (λ (x : UnitScope). Stands a x ls t) same h;
      work = grows_itself a region;
      counted = omega arith;
      same = record { unit = refl; number = refl; root = refl; libraries = refl; roots = refl; uses = omega arith; nodes = omega arith; numbers = numbers_stay u (with_notes u v.form.trace.notes) refl refl };
    })

pub stays_on : (a b c : Work) (region : Region) (u w v : UnitScope) (ls : List Frames) (s t : Noting) → Stays a b region u w ls s → Stays b c region w v ls t → Stays a c region u v ls t
stays_on a b c region u w v ls s t p q = record { stands = q.stands; work = grows_on a b c region p.work q.work; counted = omega (arith, p.counted, q.counted); same = same_on u w v p.same q.same }

unfoldable pub moves_here : (a b : Work) (region : Region) (u v : UnitScope) (ls : List Frames) (t : Noting) → Stays a b region u v ls t → Moves a b region u v ls t
moves_here a b region u v ls t p = record { layout = ls; kept = λ n fs h. h; stays = p }

unfoldable pub moves_on : (a b c : Work) (region : Region) (u w v : UnitScope) (ls : List Frames) (s t : Noting) (m : Moves a b region u w ls s) → Moves b c region w v m.layout t → Moves a c region u v ls t
moves_on a b c region u w v ls s t p q = record {
  layout = q.layout;
  kept = λ n fs h. q.kept n fs (p.kept n fs h);
  stays = record {
    stands = q.stays.stands;
    work = grows_on a b c region p.stays.work q.stays.work;
    counted = omega (arith, p.stays.counted, q.stays.counted);
    same = same_on u w v p.stays.same q.stays.same;
  };
}

-- what is left when the second of two steps ends for want of memory or of room
pub leaves_on : (a b c : Work) (region : Region) (u w : UnitScope) (ls : List Frames) (s : Noting) → Moves a b region u w ls s → Leaves b c region w → Leaves a c region u
leaves_on a b c region u w ls s p q = record { work = grows_on a b c region p.stays.work q.work; few = omega (arith, p.stays.counted, q.few) }

pub fills_on : (a b : Work) (region : Region) (u w : UnitScope) (ls : List Frames) (s : Noting) → Moves a b region u w ls s → MayFill b w → MayFill a u
fills_on a b region u w ls s p h = omega (arith, p.stays.counted, p.stays.stands.form.few_nodes, p.stays.same.nodes, h)

-- ---- calls that follow one another

-- a fault passes through what would follow
pub bound_fails : {Y Z : Type 0} (p : Result Y Broken × Noting) (f : Y → Step Noting Z) (b : Broken) → p.0 ≡ Err b → (p >>= f) ≡ (Err b, p.1)
bound_fails {Y} {Z} p f b h = let to : Result Y Broken → Result Z Broken × Noting = λ r. (r, p.1) >>= f in ap to h

pub bound_goes : {Y Z : Type 0} (p : Result Y Broken × Noting) (f : Y → Step Noting Z) (y : Y) → p.0 ≡ Ok y → (p >>= f) ≡ f y p.1
bound_goes {Y} {Z} p f y h = let to : Result Y Broken → Result Z Broken × Noting = λ r. (r, p.1) >>= f in ap to h

module _ {X Y : Type 0} where
  pub ends_after : (P : List Frames → X → Y → Type 0) (a b c : Work) (region : Region) (u w v : UnitScope) (ls : List Frames) (s : Noting) (result : Result X ExpandFault) (p : Result Y Broken × Noting) (m : Moves a b region u w ls s) → Ends P b c region w v m.layout result p → Ends P a c region u v ls result p
  unfolding moves_on
  ends_after P a b c region u w v ls s (Ok x) p m h = (h.0, moves_on a b c region u w v ls s p.1 m h.1, h.2, h.3)
  ends_after P a b c region u w v ls s (Err (fault.At e)) p m h = (moves_on a b c region u w v ls s p.1 m h.0, h.1)
  ends_after P a b c region u w v ls s (Err fault.Full) p m h = (leaves_on a b c region u w ls s m h.0, fills_on a b region u w ls s m h.1)
  ends_after P a b c region u w v ls s (Err fault.Memory) p m h = leaves_on a b c region u w ls s m h

  pub here_after : (P : X → Y → Type 0) (a b c : Work) (region : Region) (u w v : UnitScope) (ls : List Frames) (s : Noting) (result : Result X ExpandFault) (p : Result Y Broken × Noting) → Stays a b region u w ls s → EndsHere P b c region w v ls result p → EndsHere P a c region u v ls result p
  here_after P a b c region u w v ls s (Ok x) p m h = (h.0, stays_on a b c region u w v ls s p.1 m h.1, h.2, h.3)
  here_after P a b c region u w v ls s (Err (fault.At e)) p m h = (stays_on a b c region u w v ls s p.1 m h.0, h.1)
  here_after P a b c region u w v ls s (Err fault.Full) p m h = (leaves_on a b c region u w ls s (moves_here a b region u w ls s m) h.0, fills_on a b region u w ls s (moves_here a b region u w ls s m) h.1)
  here_after P a b c region u w v ls s (Err fault.Memory) p m h = leaves_on a b c region u w ls s (moves_here a b region u w ls s m) h

  -- a step that opens no scope is one that may
  pub here_ends : (P : X → Y → Type 0) (a c : Work) (region : Region) (u v : UnitScope) (ls : List Frames) (result : Result X ExpandFault) (p : Result Y Broken × Noting) → EndsHere P a c region u v ls result p → Ends (λ layout. P) a c region u v ls result p
  unfolding moves_here
  here_ends P a c region u v ls (Ok x) p h = (h.0, moves_here a c region u v ls p.1 h.1, h.2, h.3)
  here_ends P a c region u v ls (Err (fault.At e)) p h = (moves_here a c region u v ls p.1 h.0, h.1)
  here_ends P a c region u v ls (Err fault.Full) p h = h
  here_ends P a c region u v ls (Err fault.Memory) p h = h

  pub ends_fails : {V Z : Type 0} (P : List Frames → X → Y → Type 0) (Q : List Frames → V → Z → Type 0) (a c : Work) (region : Region) (u v : UnitScope) (ls : List Frames) (e : ExpandFault) (p : Result Y Broken × Noting) (f : Y → Step Noting Z) → Ends P a c region u v ls (Err e) p → Ends Q a c region u v ls (Err e) (p >>= f)
  ends_fails {Z = Z} P Q a c region u v ls (fault.At e) p f h =
      let same = bound_fails p f h.1.0 h.1.1 in
      subst (λ (q : Result Z Broken × Noting). Ends Q a c region u v ls (Err (fault.At e)) q) (sym same) (h.0, (h.1.0, refl, h.1.2))
  ends_fails {Z = Z} P Q a c region u v ls fault.Full p f h = h
  ends_fails {Z = Z} P Q a c region u v ls fault.Memory p f h = h

  pub here_fails : {V Z : Type 0} (P : X → Y → Type 0) (Q : V → Z → Type 0) (a c : Work) (region : Region) (u v : UnitScope) (ls : List Frames) (e : ExpandFault) (p : Result Y Broken × Noting) (f : Y → Step Noting Z) → EndsHere P a c region u v ls (Err e) p → EndsHere Q a c region u v ls (Err e) (p >>= f)
  here_fails {Z = Z} P Q a c region u v ls (fault.At e) p f h =
      let same = bound_fails p f h.1.0 h.1.1 in
      subst (λ (q : Result Z Broken × Noting). EndsHere Q a c region u v ls (Err (fault.At e)) q) (sym same) (h.0, (h.1.0, refl, h.1.2))
  here_fails {Z = Z} P Q a c region u v ls fault.Full p f h = h
  here_fails {Z = Z} P Q a c region u v ls fault.Memory p f h = h
