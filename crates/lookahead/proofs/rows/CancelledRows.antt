-- Bodies that a piece completes, by what they are to those before them, and which are cancelled; from outside.
-- Written by tests/definitions/rows; each row is checked by computing it.
use Rattle.std.specs.Prelude.{◌≡◌, pos, neg_ℤ, [], ◌∷◌, Some, None, codes, refl}
use Rattle.lsp_messages.specs.declared.message.Id.TheVariants.{Number, Name}
use Rattle.lookahead.specs.Cancelled.{cancelled_from}
use Rattle.lookahead.specs.declared.role.Role.TheVariants.{Request, Cancellation, Exit, Other}

pub role-1 : cancelled_from 0 ((Request (Number (pos 5))) ∷ (Cancellation (Number (pos 5))) ∷ []) ≡ ((Some (Number (pos 5)))) ∷ (None) ∷ []
role-1 = refl

pub role-2 : cancelled_from 0 ((Cancellation (Number (pos 5))) ∷ (Request (Number (pos 5))) ∷ []) ≡ (None) ∷ (None) ∷ []
role-2 = refl

pub role-3 : cancelled_from 0 ((Request (Number (pos 5))) ∷ (Cancellation (Name (codes "5"))) ∷ []) ≡ (None) ∷ (None) ∷ []
role-3 = refl

pub role-4 : cancelled_from 0 ((Request (Name (codes "5"))) ∷ (Cancellation (Number (pos 5))) ∷ []) ≡ (None) ∷ (None) ∷ []
role-4 = refl

pub role-5 : cancelled_from 0 ((Request (Name (codes "5"))) ∷ (Cancellation (Name (codes "5"))) ∷ []) ≡ ((Some (Name (codes "5")))) ∷ (None) ∷ []
role-5 = refl

pub role-6 : cancelled_from 0 ((Request (Number (pos 5))) ∷ (Cancellation (Number (neg_ℤ (pos 5)))) ∷ (Cancellation (Number (pos 50))) ∷ (Cancellation (Number (pos 0))) ∷ []) ≡ (None) ∷ (None) ∷ (None) ∷ (None) ∷ []
role-6 = refl

pub role-7 : cancelled_from 0 ((Request (Number (neg_ℤ (pos 5)))) ∷ (Cancellation (Number (neg_ℤ (pos 5)))) ∷ []) ≡ ((Some (Number (neg_ℤ (pos 5))))) ∷ (None) ∷ []
role-7 = refl

pub role-8 : cancelled_from 0 ((Request (Name (codes "ab"))) ∷ (Cancellation (Name (codes "a"))) ∷ (Cancellation (Name (codes "abc"))) ∷ (Cancellation (Name [])) ∷ []) ≡ (None) ∷ (None) ∷ (None) ∷ (None) ∷ []
role-8 = refl

pub role-9 : cancelled_from 0 ((Request (Number (pos 5))) ∷ (Exit) ∷ (Cancellation (Number (pos 5))) ∷ []) ≡ (None) ∷ (None) ∷ (None) ∷ []
role-9 = refl

pub role-10 : cancelled_from 0 ((Request (Number (pos 5))) ∷ (Cancellation (Number (pos 5))) ∷ (Exit) ∷ []) ≡ ((Some (Number (pos 5)))) ∷ (None) ∷ (None) ∷ []
role-10 = refl

pub role-11 : cancelled_from 0 ((Exit) ∷ (Request (Number (pos 5))) ∷ (Other) ∷ (Cancellation (Number (pos 5))) ∷ []) ≡ (None) ∷ ((Some (Number (pos 5)))) ∷ (None) ∷ (None) ∷ []
role-11 = refl

pub role-12 : cancelled_from 0 ((Request (Number (pos 1))) ∷ (Request (Number (pos 2))) ∷ (Cancellation (Number (pos 1))) ∷ (Request (Number (pos 1))) ∷ (Cancellation (Number (pos 2))) ∷ (Request (Number (pos 2))) ∷ []) ≡ ((Some (Number (pos 1)))) ∷ ((Some (Number (pos 2)))) ∷ (None) ∷ (None) ∷ (None) ∷ (None) ∷ []
role-12 = refl

pub role-13 : cancelled_from 0 ((Request (Number (pos 7))) ∷ (Request (Number (pos 7))) ∷ (Cancellation (Number (pos 7))) ∷ (Request (Number (pos 7))) ∷ (Cancellation (Number (pos 7))) ∷ (Cancellation (Number (pos 7))) ∷ []) ≡ ((Some (Number (pos 7)))) ∷ ((Some (Number (pos 7)))) ∷ (None) ∷ ((Some (Number (pos 7)))) ∷ (None) ∷ (None) ∷ []
role-13 = refl

pub role-14 : cancelled_from 0 ((Request (Number (pos 1))) ∷ (Other) ∷ (Other) ∷ (Other) ∷ (Other) ∷ (Other) ∷ (Other) ∷ (Other) ∷ (Other) ∷ (Other) ∷ (Other) ∷ (Other) ∷ (Other) ∷ (Other) ∷ (Other) ∷ (Other) ∷ (Other) ∷ (Other) ∷ (Other) ∷ (Other) ∷ (Other) ∷ (Other) ∷ (Other) ∷ (Other) ∷ (Other) ∷ (Other) ∷ (Other) ∷ (Other) ∷ (Other) ∷ (Other) ∷ (Other) ∷ (Other) ∷ (Other) ∷ (Other) ∷ (Other) ∷ (Other) ∷ (Other) ∷ (Other) ∷ (Other) ∷ (Other) ∷ (Other) ∷ (Other) ∷ (Other) ∷ (Other) ∷ (Other) ∷ (Other) ∷ (Other) ∷ (Other) ∷ (Other) ∷ (Other) ∷ (Other) ∷ (Other) ∷ (Other) ∷ (Other) ∷ (Other) ∷ (Other) ∷ (Other) ∷ (Other) ∷ (Other) ∷ (Other) ∷ (Other) ∷ (Other) ∷ (Other) ∷ (Cancellation (Number (pos 1))) ∷ []) ≡ ((Some (Number (pos 1)))) ∷ (None) ∷ (None) ∷ (None) ∷ (None) ∷ (None) ∷ (None) ∷ (None) ∷ (None) ∷ (None) ∷ (None) ∷ (None) ∷ (None) ∷ (None) ∷ (None) ∷ (None) ∷ (None) ∷ (None) ∷ (None) ∷ (None) ∷ (None) ∷ (None) ∷ (None) ∷ (None) ∷ (None) ∷ (None) ∷ (None) ∷ (None) ∷ (None) ∷ (None) ∷ (None) ∷ (None) ∷ (None) ∷ (None) ∷ (None) ∷ (None) ∷ (None) ∷ (None) ∷ (None) ∷ (None) ∷ (None) ∷ (None) ∷ (None) ∷ (None) ∷ (None) ∷ (None) ∷ (None) ∷ (None) ∷ (None) ∷ (None) ∷ (None) ∷ (None) ∷ (None) ∷ (None) ∷ (None) ∷ (None) ∷ (None) ∷ (None) ∷ (None) ∷ (None) ∷ (None) ∷ (None) ∷ (None) ∷ (None) ∷ []
role-14 = refl

pub role-15 : cancelled_from 0 ((Request (Number (pos 1))) ∷ (Other) ∷ (Other) ∷ (Other) ∷ (Other) ∷ (Other) ∷ (Other) ∷ (Other) ∷ (Other) ∷ (Other) ∷ (Other) ∷ (Other) ∷ (Other) ∷ (Other) ∷ (Other) ∷ (Other) ∷ (Other) ∷ (Other) ∷ (Other) ∷ (Other) ∷ (Other) ∷ (Other) ∷ (Other) ∷ (Other) ∷ (Other) ∷ (Other) ∷ (Other) ∷ (Other) ∷ (Other) ∷ (Other) ∷ (Other) ∷ (Other) ∷ (Other) ∷ (Other) ∷ (Other) ∷ (Other) ∷ (Other) ∷ (Other) ∷ (Other) ∷ (Other) ∷ (Other) ∷ (Other) ∷ (Other) ∷ (Other) ∷ (Other) ∷ (Other) ∷ (Other) ∷ (Other) ∷ (Other) ∷ (Other) ∷ (Other) ∷ (Other) ∷ (Other) ∷ (Other) ∷ (Other) ∷ (Other) ∷ (Other) ∷ (Other) ∷ (Other) ∷ (Other) ∷ (Other) ∷ (Other) ∷ (Other) ∷ (Other) ∷ (Cancellation (Number (pos 1))) ∷ []) ≡ (None) ∷ (None) ∷ (None) ∷ (None) ∷ (None) ∷ (None) ∷ (None) ∷ (None) ∷ (None) ∷ (None) ∷ (None) ∷ (None) ∷ (None) ∷ (None) ∷ (None) ∷ (None) ∷ (None) ∷ (None) ∷ (None) ∷ (None) ∷ (None) ∷ (None) ∷ (None) ∷ (None) ∷ (None) ∷ (None) ∷ (None) ∷ (None) ∷ (None) ∷ (None) ∷ (None) ∷ (None) ∷ (None) ∷ (None) ∷ (None) ∷ (None) ∷ (None) ∷ (None) ∷ (None) ∷ (None) ∷ (None) ∷ (None) ∷ (None) ∷ (None) ∷ (None) ∷ (None) ∷ (None) ∷ (None) ∷ (None) ∷ (None) ∷ (None) ∷ (None) ∷ (None) ∷ (None) ∷ (None) ∷ (None) ∷ (None) ∷ (None) ∷ (None) ∷ (None) ∷ (None) ∷ (None) ∷ (None) ∷ (None) ∷ (None) ∷ []
role-15 = refl

pub role-16 : cancelled_from 0 ((Other) ∷ (Other) ∷ (Other) ∷ (Other) ∷ (Other) ∷ (Other) ∷ (Other) ∷ (Other) ∷ (Other) ∷ (Other) ∷ (Other) ∷ (Other) ∷ (Other) ∷ (Other) ∷ (Other) ∷ (Other) ∷ (Other) ∷ (Other) ∷ (Other) ∷ (Other) ∷ (Other) ∷ (Other) ∷ (Other) ∷ (Other) ∷ (Other) ∷ (Other) ∷ (Other) ∷ (Other) ∷ (Other) ∷ (Other) ∷ (Other) ∷ (Other) ∷ (Other) ∷ (Other) ∷ (Other) ∷ (Other) ∷ (Other) ∷ (Other) ∷ (Other) ∷ (Other) ∷ (Other) ∷ (Other) ∷ (Other) ∷ (Other) ∷ (Other) ∷ (Other) ∷ (Other) ∷ (Other) ∷ (Other) ∷ (Other) ∷ (Other) ∷ (Other) ∷ (Other) ∷ (Other) ∷ (Other) ∷ (Other) ∷ (Other) ∷ (Other) ∷ (Other) ∷ (Other) ∷ (Other) ∷ (Other) ∷ (Other) ∷ (Request (Number (pos 1))) ∷ (Cancellation (Number (pos 1))) ∷ []) ≡ (None) ∷ (None) ∷ (None) ∷ (None) ∷ (None) ∷ (None) ∷ (None) ∷ (None) ∷ (None) ∷ (None) ∷ (None) ∷ (None) ∷ (None) ∷ (None) ∷ (None) ∷ (None) ∷ (None) ∷ (None) ∷ (None) ∷ (None) ∷ (None) ∷ (None) ∷ (None) ∷ (None) ∷ (None) ∷ (None) ∷ (None) ∷ (None) ∷ (None) ∷ (None) ∷ (None) ∷ (None) ∷ (None) ∷ (None) ∷ (None) ∷ (None) ∷ (None) ∷ (None) ∷ (None) ∷ (None) ∷ (None) ∷ (None) ∷ (None) ∷ (None) ∷ (None) ∷ (None) ∷ (None) ∷ (None) ∷ (None) ∷ (None) ∷ (None) ∷ (None) ∷ (None) ∷ (None) ∷ (None) ∷ (None) ∷ (None) ∷ (None) ∷ (None) ∷ (None) ∷ (None) ∷ (None) ∷ (None) ∷ (None) ∷ (None) ∷ []
role-16 = refl

pub role-17 : cancelled_from 0 ((Other) ∷ (Other) ∷ (Other) ∷ (Other) ∷ (Other) ∷ (Other) ∷ (Other) ∷ (Other) ∷ (Other) ∷ (Other) ∷ (Other) ∷ (Other) ∷ (Other) ∷ (Other) ∷ (Other) ∷ (Other) ∷ (Other) ∷ (Other) ∷ (Other) ∷ (Other) ∷ (Other) ∷ (Other) ∷ (Other) ∷ (Other) ∷ (Other) ∷ (Other) ∷ (Other) ∷ (Other) ∷ (Other) ∷ (Other) ∷ (Other) ∷ (Other) ∷ (Other) ∷ (Other) ∷ (Other) ∷ (Other) ∷ (Other) ∷ (Other) ∷ (Other) ∷ (Other) ∷ (Other) ∷ (Other) ∷ (Other) ∷ (Other) ∷ (Other) ∷ (Other) ∷ (Other) ∷ (Other) ∷ (Other) ∷ (Other) ∷ (Other) ∷ (Other) ∷ (Other) ∷ (Other) ∷ (Other) ∷ (Other) ∷ (Other) ∷ (Other) ∷ (Other) ∷ (Other) ∷ (Other) ∷ (Other) ∷ (Other) ∷ (Other) ∷ (Request (Number (pos 1))) ∷ (Cancellation (Number (pos 1))) ∷ []) ≡ (None) ∷ (None) ∷ (None) ∷ (None) ∷ (None) ∷ (None) ∷ (None) ∷ (None) ∷ (None) ∷ (None) ∷ (None) ∷ (None) ∷ (None) ∷ (None) ∷ (None) ∷ (None) ∷ (None) ∷ (None) ∷ (None) ∷ (None) ∷ (None) ∷ (None) ∷ (None) ∷ (None) ∷ (None) ∷ (None) ∷ (None) ∷ (None) ∷ (None) ∷ (None) ∷ (None) ∷ (None) ∷ (None) ∷ (None) ∷ (None) ∷ (None) ∷ (None) ∷ (None) ∷ (None) ∷ (None) ∷ (None) ∷ (None) ∷ (None) ∷ (None) ∷ (None) ∷ (None) ∷ (None) ∷ (None) ∷ (None) ∷ (None) ∷ (None) ∷ (None) ∷ (None) ∷ (None) ∷ (None) ∷ (None) ∷ (None) ∷ (None) ∷ (None) ∷ (None) ∷ (None) ∷ (None) ∷ (None) ∷ (None) ∷ ((Some (Number (pos 1)))) ∷ (None) ∷ []
role-17 = refl

pub role-18 : cancelled_from 0 ((Request (Number (pos 1))) ∷ (Other) ∷ (Other) ∷ (Other) ∷ (Other) ∷ (Other) ∷ (Other) ∷ (Other) ∷ (Other) ∷ (Other) ∷ (Other) ∷ (Other) ∷ (Other) ∷ (Other) ∷ (Other) ∷ (Other) ∷ (Other) ∷ (Other) ∷ (Other) ∷ (Other) ∷ (Other) ∷ (Other) ∷ (Other) ∷ (Other) ∷ (Other) ∷ (Other) ∷ (Other) ∷ (Other) ∷ (Other) ∷ (Other) ∷ (Other) ∷ (Other) ∷ (Other) ∷ (Other) ∷ (Other) ∷ (Other) ∷ (Other) ∷ (Other) ∷ (Other) ∷ (Other) ∷ (Other) ∷ (Other) ∷ (Other) ∷ (Other) ∷ (Other) ∷ (Other) ∷ (Other) ∷ (Other) ∷ (Other) ∷ (Other) ∷ (Other) ∷ (Other) ∷ (Other) ∷ (Other) ∷ (Other) ∷ (Other) ∷ (Other) ∷ (Other) ∷ (Other) ∷ (Other) ∷ (Other) ∷ (Other) ∷ (Other) ∷ (Request (Number (pos 2))) ∷ (Request (Number (pos 1))) ∷ (Cancellation (Number (pos 2))) ∷ (Cancellation (Number (pos 1))) ∷ []) ≡ (None) ∷ (None) ∷ (None) ∷ (None) ∷ (None) ∷ (None) ∷ (None) ∷ (None) ∷ (None) ∷ (None) ∷ (None) ∷ (None) ∷ (None) ∷ (None) ∷ (None) ∷ (None) ∷ (None) ∷ (None) ∷ (None) ∷ (None) ∷ (None) ∷ (None) ∷ (None) ∷ (None) ∷ (None) ∷ (None) ∷ (None) ∷ (None) ∷ (None) ∷ (None) ∷ (None) ∷ (None) ∷ (None) ∷ (None) ∷ (None) ∷ (None) ∷ (None) ∷ (None) ∷ (None) ∷ (None) ∷ (None) ∷ (None) ∷ (None) ∷ (None) ∷ (None) ∷ (None) ∷ (None) ∷ (None) ∷ (None) ∷ (None) ∷ (None) ∷ (None) ∷ (None) ∷ (None) ∷ (None) ∷ (None) ∷ (None) ∷ (None) ∷ (None) ∷ (None) ∷ (None) ∷ (None) ∷ (None) ∷ (None) ∷ ((Some (Number (pos 1)))) ∷ (None) ∷ (None) ∷ []
role-18 = refl

pub role-19 : cancelled_from 0 ((Request (Number (pos 3))) ∷ (Cancellation (Number (pos 1))) ∷ (Request (Number (pos 2))) ∷ (Cancellation (Number (pos 1))) ∷ (Request (Number (pos 2))) ∷ (Cancellation (Number (pos 1))) ∷ (Request (Number (pos 2))) ∷ (Cancellation (Number (pos 1))) ∷ (Request (Number (pos 2))) ∷ (Cancellation (Number (pos 1))) ∷ (Request (Number (pos 2))) ∷ (Cancellation (Number (pos 1))) ∷ (Request (Number (pos 2))) ∷ (Cancellation (Number (pos 1))) ∷ (Request (Number (pos 2))) ∷ (Cancellation (Number (pos 1))) ∷ (Request (Number (pos 2))) ∷ (Cancellation (Number (pos 1))) ∷ (Request (Number (pos 2))) ∷ (Cancellation (Number (pos 1))) ∷ (Request (Number (pos 2))) ∷ (Cancellation (Number (pos 1))) ∷ (Request (Number (pos 2))) ∷ (Cancellation (Number (pos 1))) ∷ (Request (Number (pos 2))) ∷ (Cancellation (Number (pos 1))) ∷ (Request (Number (pos 2))) ∷ (Cancellation (Number (pos 1))) ∷ (Request (Number (pos 2))) ∷ (Cancellation (Number (pos 1))) ∷ (Request (Number (pos 2))) ∷ (Cancellation (Number (pos 1))) ∷ (Request (Number (pos 2))) ∷ (Cancellation (Number (pos 1))) ∷ (Request (Number (pos 2))) ∷ (Cancellation (Number (pos 1))) ∷ (Request (Number (pos 2))) ∷ (Cancellation (Number (pos 1))) ∷ (Request (Number (pos 2))) ∷ (Cancellation (Number (pos 1))) ∷ (Request (Number (pos 2))) ∷ (Cancellation (Number (pos 1))) ∷ (Request (Number (pos 2))) ∷ (Cancellation (Number (pos 1))) ∷ (Request (Number (pos 2))) ∷ (Cancellation (Number (pos 1))) ∷ (Request (Number (pos 2))) ∷ (Cancellation (Number (pos 1))) ∷ (Request (Number (pos 2))) ∷ (Cancellation (Number (pos 1))) ∷ (Request (Number (pos 2))) ∷ (Cancellation (Number (pos 1))) ∷ (Request (Number (pos 2))) ∷ (Cancellation (Number (pos 1))) ∷ (Request (Number (pos 2))) ∷ (Cancellation (Number (pos 1))) ∷ (Request (Number (pos 2))) ∷ (Cancellation (Number (pos 1))) ∷ (Request (Number (pos 2))) ∷ (Cancellation (Number (pos 1))) ∷ (Request (Number (pos 2))) ∷ (Cancellation (Number (pos 1))) ∷ (Request (Number (pos 2))) ∷ (Cancellation (Number (pos 3))) ∷ (Request (Number (pos 4))) ∷ (Cancellation (Number (pos 4))) ∷ []) ≡ ((Some (Number (pos 3)))) ∷ (None) ∷ (None) ∷ (None) ∷ (None) ∷ (None) ∷ (None) ∷ (None) ∷ (None) ∷ (None) ∷ (None) ∷ (None) ∷ (None) ∷ (None) ∷ (None) ∷ (None) ∷ (None) ∷ (None) ∷ (None) ∷ (None) ∷ (None) ∷ (None) ∷ (None) ∷ (None) ∷ (None) ∷ (None) ∷ (None) ∷ (None) ∷ (None) ∷ (None) ∷ (None) ∷ (None) ∷ (None) ∷ (None) ∷ (None) ∷ (None) ∷ (None) ∷ (None) ∷ (None) ∷ (None) ∷ (None) ∷ (None) ∷ (None) ∷ (None) ∷ (None) ∷ (None) ∷ (None) ∷ (None) ∷ (None) ∷ (None) ∷ (None) ∷ (None) ∷ (None) ∷ (None) ∷ (None) ∷ (None) ∷ (None) ∷ (None) ∷ (None) ∷ (None) ∷ (None) ∷ (None) ∷ (None) ∷ (None) ∷ ((Some (Number (pos 4)))) ∷ (None) ∷ []
role-19 = refl
