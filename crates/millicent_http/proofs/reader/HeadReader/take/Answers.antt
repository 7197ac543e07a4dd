use Rattle.std.proofs.Common.{refl}
use Rattle.millicent_http.proofs.TakeLemmas.{took_item}
use Rattle.millicent_http.proofs.reader.HeadReader.take.Goals as goal

pub returns-in-Head : goal.returns-in-Head
returns-in-Head g c =
    let found = c.in-Head.ensures.found in (
      (
        refl,
        λ _. tt,
        took_item c.args.self.now c.await_item.new.self (g.K.Link.link c.args.k.now) (g.K.Link.link c.await_item.new.k) c.give.result c.give.follows.lender-at-none found.got
            found.held c.in-Head.ensures.given found.few found.waited found.leads c.give.follows.holds-at-none,
      ),
      record { moved = c.in-Head.ensures.moved; quiet = c.in-Head.ensures.quiet; took = tt },
    )

pub returns-in-TooLarge : goal.returns-in-TooLarge
returns-in-TooLarge g c =
    let found = c.in-TooLarge.ensures.found in (
      (
        refl,
        λ _. tt,
        took_item c.args.self.now c.await_item.new.self (g.K.Link.link c.args.k.now) (g.K.Link.link c.await_item.new.k) c.refuse_large.result c.refuse_large.follows.lender-at-none found.got
            found.held c.in-TooLarge.ensures.given found.few found.waited found.leads c.refuse_large.follows.holds-at-none,
      ),
      record { moved = c.in-TooLarge.ensures.moved; quiet = c.in-TooLarge.ensures.quiet; took = tt },
    )
