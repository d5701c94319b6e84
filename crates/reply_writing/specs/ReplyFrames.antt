-- The bytes that replies are written as (LSP 3.17, base protocol).
use Rattle.std.specs.Prelude.{ℕ, List, [], ◌∷◌, ◌++◌}
use Rattle.ls_base.specs.Frames.{frame_text}
use Rattle.lsp_messages.specs.Replies.{reply_text}
use Rattle.lsp_messages.specs.declared.reply.Reply.{Reply}
use Rattle.lsp_messages.specs.declared.reply.Reply.TheVariants as kinds
use Rattle.reply_writing.specs.Wording.{fault_text}

abbrev pub frame_of_reply : Reply → List ℕ
frame_of_reply reply = frame_text (reply_text reply)

-- the frames of replies, one after another
abbrev pub frames_of : List Reply → List ℕ
frames_of [] = []
frames_of (reply ∷ replies) = frame_of_reply reply ++ frames_of replies

-- the log of a fault of frames, by its number, at an offset of the stream
abbrev pub fault_log : ℕ → ℕ → Reply
fault_log number offset = kinds.Log (fault_text number offset)
