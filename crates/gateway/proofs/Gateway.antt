-- What is handed to C, and that nothing else could be. Assumes nothing.
use mathlib.Core.Path.{◌≡◌, sym, ap, ◌∙◌}
use Rattle.uplink.proofs.ShutOut as uplink
use Rattle.capture.proofs.Promises as capture
use Rattle.quantise.proofs.Unique as quantise
use Rattle.gateway.specs.Gateway.{Hands, NoSecond}

-- an answer that meets the contract and is known to be b is handed on as the fields of b
pub hands_known : {Answer Fields : Type 0} {Meets : Answer → Type 0} {a b : Answer} (fields : Answer → Fields) → Meets a → a ≡ b → Hands Meets fields (fields b)
hands_known {a = a} fields meets known = record { answer = a; meets = meets; handed = ap fields (sym known) }

-- where the two answers are one, so are the two structs
hands_same :
    {Answer Fields : Type 0} {Meets Meets' : Answer → Type 0} {fields : Answer → Fields} {r r' : Fields}
    (p : Hands Meets fields r) (q : Hands Meets' fields r') → p.answer ≡ q.answer → r ≡ r'
hands_same {fields = fields} p q one = p.handed ∙ ap fields one ∙ sym q.handed

pub no_second : NoSecond
no_second =
    record {
      build_answer = λ p q. hands_same p q ((uplink.no_second).build_answer p.meets q.meets);
      build_buffer = λ p q. (uplink.no_second).build_buffer p.meets q.meets;
      recover_answer = λ p q. hands_same p q ((uplink.no_second).recover_answer p.meets q.meets);
      recover_buffer = λ p q. (uplink.no_second).recover_buffer p.meets q.meets;
      write_answer = λ p q. hands_same p q ((capture.no_second).write_answer p.meets q.meets);
      write_buffer = λ p q. (capture.no_second).write_buffer p.meets q.meets;
      read_answer = λ p q. hands_same p q ((capture.no_second).read_answer p.meets q.meets);
      read_marks = λ p q. (capture.no_second).read_marks p.meets q.meets;
      read_values = λ p q. (capture.no_second).read_values p.meets q.meets;
      quantise_answer = λ p q. hands_same p q ((quantise.no_second).answer p.meets q.meets);
      quantise_buffer = λ p q. (quantise.no_second).buffer p.meets q.meets;
    }
