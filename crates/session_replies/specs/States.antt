-- The state of a session as contracts see it.
use Rattle.std.specs.Prelude.{◌≡◌, ℕ, zero, suc, Bool, true, false, refl}
use Rattle.std.specs.Coded.{Coded, code_by, coded×, coded_ℕ, coded_ℤ, coded_list}
use Rattle.std.specs.FinMap.{code, empty}
use Rattle.scheme_model.specs.Session.{State}
use Rattle.scheme_model.specs.Session as session
use Rattle.ls_base.specs.declared.encoding.Encoding.{Encoding}
use Rattle.scheme_model.specs.Texts as texts
use Rattle.scheme_model.specs.Texts.{Texts}
use Rattle.session_replies.specs.declared.mode.Mode.{Mode}
use Rattle.session_replies.specs.declared.mode.Mode.TheVariants as modes
use Rattle.session_replies.specs.FromWire.{said_encoding}

abbrev pub said_mode : Mode → session.Mode
said_mode modes.Fresh = session.Fresh
said_mode modes.Running = session.Running
said_mode modes.Shut = session.Shut

abbrev pub is_running : session.Mode → Bool
is_running session.Fresh = false
is_running session.Running = true
is_running session.Shut = false

-- the status with which `exit` ends the process (LSP 3.17, exit)
abbrev pub exit_code : session.Ending → ℕ
exit_code session.Clean = 0
exit_code session.Early = 1

-- the mode, what positions count in, and the texts of the open documents
abbrev pub state_of : Mode → Encoding → Texts → State
state_of mode encoding texts = record { mode = said_mode mode; encoding = said_encoding encoding; texts = texts }

-- before `initialize` no document is open
abbrev pub IsBegun : Mode → Texts → Type 0
IsBegun modes.Fresh texts = texts ≡ empty
IsBegun modes.Running texts = Unit {0}
IsBegun modes.Shut texts = Unit {0}

-- ---- how a state is stored

abbrev pub number_of : session.Mode → ℕ
number_of session.Fresh = 0
number_of session.Running = 1
number_of session.Shut = 2

abbrev pub mode_at : ℕ → session.Mode
mode_at zero = session.Fresh
mode_at (suc zero) = session.Running
mode_at (suc (suc n)) = session.Shut

pub mode_at-number_of : (mode : session.Mode) → mode_at (number_of mode) ≡ mode
mode_at-number_of session.Fresh = refl
mode_at-number_of session.Running = refl
mode_at-number_of session.Shut = refl

abbrev pub coded_mode : Coded session.Mode
coded_mode = code_by ℕ coded_ℕ number_of mode_at mode_at-number_of

abbrev pub encoding_number : texts.Encoding → ℕ
encoding_number texts.Utf8 = 0
encoding_number texts.Utf16 = 1
encoding_number texts.Utf32 = 2

abbrev pub encoding_at : ℕ → texts.Encoding
encoding_at zero = texts.Utf8
encoding_at (suc zero) = texts.Utf16
encoding_at (suc (suc n)) = texts.Utf32

pub encoding_at-encoding_number : (encoding : texts.Encoding) → encoding_at (encoding_number encoding) ≡ encoding
encoding_at-encoding_number texts.Utf8 = refl
encoding_at-encoding_number texts.Utf16 = refl
encoding_at-encoding_number texts.Utf32 = refl

abbrev pub coded_encoding : Coded texts.Encoding
coded_encoding = code_by ℕ coded_ℕ encoding_number encoding_at encoding_at-encoding_number

abbrev pub coded_texts : Coded Texts
coded_texts = code (coded_list coded_ℕ) (coded× coded_ℤ (coded_list coded_ℕ))

abbrev pub coded_state : Coded State
coded_state =
    code_by (session.Mode × (texts.Encoding × Texts)) (coded× coded_mode (coded× coded_encoding coded_texts)) (λ s. (s.mode, (s.encoding, s.texts)))
    (λ p. record { mode = p.0; encoding = p.1.0; texts = p.1.1 }) (λ _. refl)
