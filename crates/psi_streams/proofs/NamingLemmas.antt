-- Replies and endings of `psi` under another program's name.
use Rattle.std.specs.Prelude.{◌≡◌, ℕ, List, [], refl}
use Rattle.std.proofs.Common.{ap}
use Rattle.psi_program.specs.Reply.{text_reply}
use Rattle.psi_program.specs.Ending.{replied, unread, no_memory, ending_reply, HasRead}
use Rattle.psi_command.specs.declared.status.Status.{Status}
use Rattle.psi_reply.specs.Reply.{Reply}
use Rattle.psi_reply.specs.Ending.{Ending, EndsWith, with_line, ending_reply as own_reply}
use Rattle.psi_streams.specs.Named.{named_line, named_reply, faults, named_ending}

module _ (name : List ℕ) where
  -- no line stays none
  pub named_none : named_line name [] ≡ []
  unfolding named_line
  named_none = refl

  pub named_text : (status : Status) (text : List ℕ) → named_reply name (text_reply status text) ≡ text_reply status text
  named_text status text = ap (λ (line : List ℕ). let reply : Reply = record { status = status; out = text; err = line } in reply) named_none

  -- the status of an ending stays, and its line is under the name
  pub named_status : (ending : Ending) → (own_reply ending).status ≡ (ending_reply (faults name) (named_ending name ending)).status
  named_status (replied reply) = refl
  named_status (unread file) = refl
  named_status no_memory = refl

  pub named_whole : (ending : Ending) → with_line (own_reply ending) (named_line name (own_reply ending).err) ≡ ending_reply (faults name) (named_ending name ending)
  named_whole (replied reply) = refl
  named_whole (unread file) = refl
  named_whole no_memory = refl

  -- work that ends with a reply of `psi` ends with it under the name
  pub ends_named : (ending : Ending) (reply : Reply) → EndsWith ending reply → EndsWith (named_ending name ending) (named_reply name reply)
  ends_named (replied given) reply ends = ap (named_reply name) ends
  ends_named (unread file) reply ends = ends
  ends_named no_memory reply ends = tt

  pub named_read : (ending : Ending) → HasRead ending → HasRead (named_ending name ending)
  named_read (replied given) read = tt
  named_read (unread file) read = read
  named_read no_memory read = tt
