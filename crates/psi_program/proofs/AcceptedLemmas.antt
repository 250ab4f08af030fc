-- The bytes that out and err accepted, from how a reply was written.
use Rattle.std.specs.Prelude.{◌≡◌, ℕ, List, [], ◌++◌, refl}
use Rattle.std.proofs.Common.{inl, inr, sym, ◌∙◌, append-nil}
use Rattle.psi_io.specs.Sink.{TookPrefix}
use Rattle.psi_program.specs.Seen.{SinkSeen}
use Rattle.psi_program.specs.Reply.{Reply}
use Rattle.psi_program.specs.Written.{IsWrittenAs}
use Rattle.psi_program.specs.Run.{from_nothing}

-- a sink that held nothing and accepted this text, with the counts of another
abbrev pub alone : List ℕ → SinkSeen → SinkSeen
alone text sink = from_nothing text sink.faults_before sink.faults_after

-- the texts that were accepted, by which the reply is written to sinks that held nothing
pub record Accepted {Status : Type 0} (reply : Reply Status) (fault : Status) (out err : SinkSeen) (result : Status) : Type 0 where
  pub printed : List ℕ
  pub reported : List ℕ
  pub out_took : out.took_after ≡ out.took_before ++ printed
  pub err_took : err.took_after ≡ err.took_before ++ reported
  pub written : IsWrittenAs reply fault (alone printed out) (alone reported err) result

grew-took : (before after text : List ℕ) (part : TookPrefix before after text) → after ≡ before ++ part.front
grew-took before after text part = (let same = part.grew in cc)

-- a front of a text is a prefix of it, from nothing on
front-alone : (before after text : List ℕ) (part : TookPrefix before after text) → TookPrefix [] part.front text
front-alone before after text part = record { front = part.front; back = part.back; whole = part.whole; grew = refl }

pub accepted : {Status : Type 0} (reply : Reply Status) (fault : Status) (out err : SinkSeen) (result : Status)
    → IsWrittenAs reply fault out err result → Accepted reply fault out err result
accepted reply fault out err result (inl whole) = record {
  printed = reply.out;
  reported = reply.err;
  out_took = whole.1.printed.took;
  err_took = whole.1.reported.took;
  written = inl (whole.0, record { printed = record { held = refl; took = refl }; reported = record { held = refl; took = refl } });
}
accepted reply fault out err result (inr (is, inl cut)) = record {
  printed = cut.part.took.front;
  reported = [];
  out_took = grew-took out.took_before out.took_after reply.out cut.part.took;
  err_took = cut.rest.took ∙ sym (append-nil err.took_before);
  written =
      let part = front-alone out.took_before out.took_after reply.out cut.part.took in
      inr (is, inl (record { cause = cut.cause; part = record { held = part; took = part }; rest = record { held = refl; took = refl } }));
}
accepted reply fault out err result (inr (is, inr cut)) = record {
  printed = [];
  reported = cut.part.took.front;
  out_took = cut.rest.took ∙ sym (append-nil out.took_before);
  err_took = grew-took err.took_before err.took_after reply.err cut.part.took;
  written =
      let part = front-alone err.took_before err.took_after reply.err cut.part.took in
      inr (is, inr (record { cause = cut.cause; part = record { held = part; took = part }; rest = record { held = refl; took = refl } }));
}
