use Rattle.std.proofs.Common.{arith, refl, ap, ◌∙◌, ◌≡◌, ◌≤◌, ◌-◌, ◌+◌, sym, length}
use Rattle.std.specs.Prelude.{slice_range}
use Rattle.millicent_http.specs.Held.{Held}
use Rattle.millicent_http.specs.Items.{request, refused}
use Rattle.millicent_http.specs.declared.item.After.TheVariants.{Close}
use Rattle.mc_requests.specs.Requests.{asked_of}
use Rattle.millicent_http.specs.HeadRefusals.{as_refusal}
use Rattle.millicent_http.proofs.BufferLemmas.{held_len}
use Rattle.millicent_http.proofs.TakeLemmas.{give_item, buffer_behind, ends_link}
use Rattle.millicent_http.proofs.reader.HeadReader.give.Goals as goal

pub invariant_of-self : goal.invariant_of-self
invariant_of-self c =
    let is : slice_range c.self.inside.buf.items c.self.inside.start c.self.inside.end ≡ c.args.self.now.bytes = ap (λ (h : Held). h.bytes) c.self.view_is ∙ c.count-last.ensures.bytes in
    let len : length c.args.self.now.bytes ≡ c.self.inside.end - c.self.inside.start = held_len c.self.inside.buf.items c.args.self.now.bytes c.self.inside.start c.self.inside.end c.self.inside.skip c.self.inside.searched c.self.invariant.0 (sym is) in
    let within : c.args.end ≤ length c.args.self.now.bytes = c.requires.first.within in
    (buffer_behind c.self.inside.buf.items c.self.inside.start c.self.inside.end c.self.inside.skip c.self.inside.searched (c.self.inside.start + c.args.end) c.self.invariant.0 (omega (arith, c.self.invariant.0.order, len, within)), c.self.invariant.1)

pub returns-in-Request : goal.returns-in-Request
returns-in-Request c =
    let is : slice_range c.self.inside.buf.items c.self.inside.start c.self.inside.end ≡ c.args.self.now.bytes = ap (λ (h : Held). h.bytes) c.self.view_is ∙ c.count-last.ensures.bytes in
    let given : c.self.inside.given ≡ c.count-last.new.self.given = ap (λ (h : Held). h.given) c.self.view_is in (
      (
        refl,
        λ _. tt,
        (
          c.in-Request.close,
          record {
            next = give_item c.self.inside.buf.items c.args.self.now.bytes c.deref.result.now c.deref-2.result.now c.self.inside.start c.self.inside.end c.self.inside.skip c.self.inside.searched c.skip_line_ends-skip.result c.args.end (request (asked_of c.in-Request.request) c.in-Request.close)
                c.self.invariant.0 is c.requires.first c.deref.ensures.value c.deref-2.ensures.value c.skip_line_ends-skip.ensures c.in-Request.ensures;
            given_is = given ∙ c.count-last.ensures.given;
            after_is = ends_link (c.of.result ≡ Close) c.in-Request.close c.count-last.result c.self.inside.given c.count-last.new.self.given c.of.ensures c.count-last.ensures.last given;
          },
        ),
      ),
      record { gave = tt },
    )

pub returns-in-Refused : goal.returns-in-Refused
returns-in-Refused c =
    let is : slice_range c.self.inside.buf.items c.self.inside.start c.self.inside.end ≡ c.args.self.now.bytes = ap (λ (h : Held). h.bytes) c.self.view_is ∙ c.count-last.ensures.bytes in
    let given : c.self.inside.given ≡ c.count-last.new.self.given = ap (λ (h : Held). h.given) c.self.view_is in (
      (
        refl,
        λ _. tt,
        (
          c.in-Refused.close,
          record {
            next = give_item c.self.inside.buf.items c.args.self.now.bytes c.deref.result.now c.deref-2.result.now c.self.inside.start c.self.inside.end c.self.inside.skip c.self.inside.searched c.skip_line_ends-skip.result c.args.end (refused (as_refusal c.in-Refused.refusal) c.in-Refused.close)
                c.self.invariant.0 is c.requires.first c.deref.ensures.value c.deref-2.ensures.value c.skip_line_ends-skip.ensures c.in-Refused.ensures;
            given_is = given ∙ c.count-last.ensures.given;
            after_is = ends_link (c.of-in-Refused.result ≡ Close) c.in-Refused.close c.count-last.result c.self.inside.given c.count-last.new.self.given c.of-in-Refused.ensures c.count-last.ensures.last given;
          },
        ),
      ),
      record { gave = tt },
    )
