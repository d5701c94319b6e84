-- The texts of errors and of logs that a session sends (JSON-RPC 2.0, section 5.1; LSP 3.17, `window/logMessage`).
use Rattle.std.specs.Prelude.{ℕ, List, ◌++◌, codes}
use Rattle.scheme_model.specs.Texts.{Refusal, NotOpen, BadRange, TooLong, TooMany}

-- ---- errors

abbrev pub parse_error_text : List ℕ
parse_error_text = codes "parse error"

abbrev pub invalid_request_text : List ℕ
invalid_request_text = codes "invalid request"

abbrev pub method_not_found_text : List ℕ
method_not_found_text = codes "method not found"

abbrev pub invalid_params_text : List ℕ
invalid_params_text = codes "invalid params"

abbrev pub not_initialized_text : List ℕ
not_initialized_text = codes "server not initialized"

-- ---- logs

-- what is wrong with a refused event, before the document's uri
abbrev pub refusal_word : Refusal → List ℕ
refusal_word NotOpen = codes "not open: "
refusal_word BadRange = codes "bad range: "
refusal_word TooLong = codes "text too long: "
refusal_word TooMany = codes "too many documents: "

abbrev pub refusal_text : Refusal → List ℕ → List ℕ
refusal_text refusal uri = refusal_word refusal ++ uri

-- a notification of this method lacks a parameter, or has one of another type
abbrev pub bad_params_text : List ℕ → List ℕ
bad_params_text method = codes "bad params: " ++ method
