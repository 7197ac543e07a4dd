use Rattle.std.proofs.Common.{◌≡◌, ◌+◌, length, take, ◌∙◌, arith}
use Rattle.millicent_http.proofs.InputLemmas.{cut_to, input_cut, within_size}
use Rattle.millicent_http.proofs.input.read_input.Goals as goal

pub returns-in-Ok-receive-clause-read : goal.returns-in-Ok-receive-clause-read
returns-in-Ok-receive-clause-read g c =
    let size : length c.deref_mut.result.now ≡ c.args.most + 1 = c.deref_mut.ensures.len ∙ c.in-Ok.ensures.len in
    let got = c.in-Ok-receive.ensures.received in
    let few = within_size (length c.deref_mut.result.now) (g.K.Link.link c.next_link.new.self) c.in-Ok-receive.len (take c.in-Ok-receive.len c.receive.new.buf) (g.K.Link.link c.receive.new.k) got in
    let is : c.truncate.new.self.items ≡ take c.in-Ok-receive.len c.receive.new.buf =
    c.truncate.ensures.items ∙ cut_to c.in-Ok-receive.len c.resize.new.self.len c.receive.new.buf _ (omega (arith, few, c.deref_mut.ensures.len)) (omega (arith, few, c.receive.ensures.len)) in
    input_cut c.args.most c.in-Ok-receive.len (length c.deref_mut.result.now) (g.K.Link.link c.args.k.now) (g.K.Link.link c.next_link.new.self) (g.K.Link.link c.receive.new.k) c.receive.new.buf c.truncate.new.self.items size
    c.receive.ensures.len (rw c.in-Ok-true.field-0-test at c.in-Ok-true.ensures.taken) is got
