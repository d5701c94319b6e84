-- What holds of where work went to, unless it ended.
use Rattle.std.proofs.Common.{Option, Some, None}
use Rattle.scheme_model.specs.UnitExpansion.{Work, ◌then◌}
use Rattle.kept_forms.specs.Carried.{Onwards}

pub onwards_all : {S X : Type 0} (P : X → S → Type 0) → ((x : X) (s : S) → P x s) → (q : Option X × S) → Onwards P q
onwards_all P f (None, s) = tt
onwards_all P f (Some x, s) = f x s

pub onwards_map : {S X : Type 0} (P Q : X → S → Type 0) → ((x : X) (s : S) → P x s → Q x s) → (q : Option X × S) → Onwards P q → Onwards Q q
onwards_map P Q f (None, s) h = tt
onwards_map P Q f (Some x, s) h = f x s h

pub onwards_with : {S X : Type 0} (P Q R : X → S → Type 0) → ((x : X) (s : S) → P x s → Q x s → R x s) → (q : Option X × S) → Onwards P q → Onwards Q q → Onwards R q
onwards_with P Q R f (None, s) h k = tt
onwards_with P Q R f (Some x, s) h k = f x s h k

-- one step of work after another
pub onwards_then : {S X Y : Type 0} (R : Y → S → Type 0) (f : X → Work S Y) (q : Option X × S) → Onwards (λ x s. Onwards R (f x s)) q → Onwards R (q then f)
onwards_then R f (None, s) h = tt
onwards_then R f (Some x, s) h = h

pub then_onwards : {S X Y : Type 0} (R : Y → S → Type 0) (f : X → Work S Y) (q : Option X × S) → Onwards R (q then f) → Onwards (λ x s. Onwards R (f x s)) q
then_onwards R f (None, s) h = tt
then_onwards R f (Some x, s) h = h
