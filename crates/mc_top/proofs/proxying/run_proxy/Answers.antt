use Rattle.std.proofs.Common.{◌≡◌, inl, inr, ap, refl, subst}
use Rattle.std.specs.Prelude.{is_some}
use Rattle.wallet_words.specs.declared.proxying.Proxying.{Proxying}
use Rattle.wallet_words.proofs.ProxyLemmas.{one_proxy}
use Rattle.mc_top.specs.Proxying.{Proxies}
use Rattle.mc_top.proofs.ProxyLemmas.{proxy_well}
use Rattle.mc_top.proofs.proxying.run_proxy.Goals as goal

pub returns-in-Ok-Some-clause-words : goal.returns-in-Ok-Some-clause-words
returns-in-Ok-Some-clause-words g c two = absurd (c.proxy-out.ensures.words (c.answer.ensures.number.0 two))

pub returns-in-Ok-Some-clause-no_words : goal.returns-in-Ok-Some-clause-no_words
returns-in-Ok-Some-clause-no_words g c none = absurd (none c.in-Ok-Some.proxying (rw c.in-Ok-Some.field-0-is at c.in-Ok-Some.ensures.some))

pub returns-in-Ok-Some-clause-proxied : goal.returns-in-Ok-Some-clause-proxied
returns-in-Ok-Some-clause-proxied g c p words =
    let own : c.in-Ok-Some.proxying ≡ p = one_proxy _ _ p (rw c.in-Ok-Some.field-0-is at c.in-Ok-Some.ensures.some) words in
    inr (
      c.proxy-out.result.0,
      c.proxy-out.result.1,
      subst (λ (x : Proxying). Proxies g.O.Link.link g.O.Disk.disk x c.args.out (g.U.Link.link c.args.up.now) c.proxy-out.result.1 (g.U.Link.link c.proxy-out.new.up) c.proxy-out.result.0) own c.proxy-out.ensures.proxied,
      c.answer.ensures.ends,
    )

pub returns-in-Ok-Some-clause-complete : goal.returns-in-Ok-Some-clause-complete
returns-in-Ok-Some-clause-complete g c p words has no_disk no_link =
    proxy_well g.O.Link.link g.O.Disk.disk p c.args.out _ (g.U.Link.link c.args.up.now) (g.U.Link.link c.proxy-out.new.up) _ has no_disk no_link (returns-in-Ok-Some-clause-proxied g c p words)

pub returns-in-Ok-None-clause-words : goal.returns-in-Ok-None-clause-words
returns-in-Ok-None-clause-words g c two = c.in-Ok-None.ensures.none (ap is_some c.in-Ok-None.field-0-is)

pub returns-in-Ok-None-clause-no_words : goal.returns-in-Ok-None-clause-no_words
returns-in-Ok-None-clause-no_words g c none = (inl c.answer-in-Ok-None.ensures.ends, refl)

pub returns-in-Ok-None-clause-proxied : goal.returns-in-Ok-None-clause-proxied
returns-in-Ok-None-clause-proxied g c p words = absurd (c.in-Ok-None.ensures.none (ap is_some c.in-Ok-None.field-0-is) p words)

pub returns-in-Ok-None-clause-complete : goal.returns-in-Ok-None-clause-complete
returns-in-Ok-None-clause-complete g c p words has no_disk no_link = absurd (c.in-Ok-None.ensures.none (ap is_some c.in-Ok-None.field-0-is) p words)

pub returns-in-Err-clause-no_words : goal.returns-in-Err-clause-no_words
returns-in-Err-clause-no_words g c none = (inr c.answer-in-Err.ensures.ends, refl)

pub returns-in-Err-clause-proxied : goal.returns-in-Err-clause-proxied
returns-in-Err-clause-proxied g c p words = inl (c.answer-in-Err.ensures.ends, refl)

pub returns-in-Err-clause-complete : goal.returns-in-Err-clause-complete
returns-in-Err-clause-complete g c p words has no_disk no_link =
    proxy_well g.O.Link.link g.O.Disk.disk p c.args.out _ (g.U.Link.link c.args.up.now) (g.U.Link.link c.args.up.now) _ has no_disk no_link (inl (c.answer-in-Err.ensures.ends, refl))
