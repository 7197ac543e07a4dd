use Rattle.std.proofs.Common.{◌∙◌, ◌+◌, ◌<◌, refl, sym, ap, subst, arith}
use Rattle.mc_outside.specs.Bytes.{Rose}
use Rattle.mc_outside.specs.DiskView.{Ran}
use Rattle.mc_requests.specs.declared.limits.Limits.{Limits}
use Rattle.mc_records.specs.Sizes.{size, entry_size}
use Rattle.mc_records.specs.Views.{entry}
use Rattle.scrip_journal.specs.Exits.{EitherNoOutput}
use Rattle.wallet_core.specs.First.{tells_chain}
use Rattle.wallet_core.proofs.EnterLaws.{has_room, learned, not_full, ran_nothing}
use Rattle.wallet_core.proofs.OutcomeLaws.{as_it_stood}
use Rattle.wallet_core.proofs.wallet.Wallet.add.Goals as goal

pub returns-in-Ok-append-clause-exact : goal.returns-in-Ok-append-clause-exact
returns-in-Ok-append-clause-exact g c = rw (← c.wallet.view_is) (λ h st.
    let e = entry c.args.r.now in
    let wrote = c.in-Ok-append.ensures in
    let journal = (wrote.written h st.journal).0 in
    let made = c.in-Ok-reserve.ensures in
    let knows = c.learn-learned.ensures in
    let both = learned c.learn-learned.new.self h e c.learn-learned.result ((rw (← c.wallet.view_is) at c.requires.may) h st) (knows.exact h (made.same h st.book) (tells_chain h e ((rw (← c.wallet.view_is) at c.requires.may) h st)) (has_room g.D.Disk.disk c.in-Ok-append.journal h e journal)) in
    record {
      adds = (
        record {
          fits = c.in-Ok.ensures.fitted h (entry c.args.r.now) st.book c.payload_len-bytes.ensures;
          stands = record {
            journal = journal;
            book = both.1;
            limit = wrote.limit ∙ st.limit ∙ ap (λ (l : Limits). l.journal) (sym (knows.limits ∙ made.limits));
          };
          time' = omega (arith, knows.time both.0, made.time, (rw (← c.wallet.view_is) at c.requires.now));
        },
        (wrote.written h st.journal).1,
      );
      ran = wrote.ran h st.journal;
    })

pub returns-in-Err-Full-clause-exact : goal.returns-in-Err-Full-clause-exact
returns-in-Err-Full-clause-exact g c = rw (← c.wallet.view_is) (λ h st.
    let full : c.wallet.inside.journal.limit < size h + entry_size h (entry c.args.r.now) = rw c.in-Err-Full.field-0-is at (c.in-Err-Full.ensures.full h st.journal.size_is st.journal.switched_is) in
    absurd (not_full c.wallet.inside.book h (entry c.args.r.now) (c.in-Ok.ensures.fitted h (entry c.args.r.now) st.book c.payload_len-bytes.ensures) (omega (arith, full, st.limit))))

pub returns-in-Err-Disk-clause-exact : goal.returns-in-Err-Disk-clause-exact
returns-in-Err-Disk-clause-exact g c = rw (← c.wallet.view_is) (λ h st.
    let rose : Rose (g.D.Disk.disk c.wallet.inside.journal.disk).faults (g.D.Disk.disk c.in-Err-Disk.halted).faults = rw c.in-Err-Disk.field-0-is at c.in-Err-Disk.ensures.fault in
    let ran : Ran (g.D.Disk.disk c.wallet.inside.journal.disk) (g.D.Disk.disk c.in-Err-Disk.halted) (EitherNoOutput h (entry c.args.r.now) (g.D.Disk.disk c.wallet.inside.journal.disk).aside) = rw c.in-Err-Disk.field-0-is at (c.in-Err-Disk.ensures.ran h st.journal) in
    record {
      adds = record {
        fits = c.in-Ok.ensures.fitted h (entry c.args.r.now) st.book c.payload_len-bytes.ensures;
        follows = (rw (← c.wallet.view_is) at c.requires.may) h st;
        rose = subst (λ (d : g.row.D.Denot). Rose (g.D.Disk.disk c.wallet.inside.journal.disk).faults (g.D.Disk.disk d).faults) (sym c.in-Err-Disk.halted-is) rose;
      };
      ran = subst (λ (d : g.row.D.Denot). Ran (g.D.Disk.disk c.wallet.inside.journal.disk) (g.D.Disk.disk d) (EitherNoOutput h (entry c.args.r.now) (g.D.Disk.disk c.wallet.inside.journal.disk).aside)) (sym c.in-Err-Disk.halted-is) ran;
    })

pub returns-in-Err-reserve-clause-exact : goal.returns-in-Err-reserve-clause-exact
returns-in-Err-reserve-clause-exact g c = rw (← c.wallet.view_is) (λ h st.
    let made = c.reserve.ensures in
    record {
      adds = (
        c.in-Ok.ensures.fitted h (entry c.args.r.now) st.book c.payload_len-bytes.ensures,
        record {
          stands = record { journal = st.journal; book = made.same h st.book; limit = st.limit ∙ ap (λ (l : Limits). l.journal) (sym made.limits) };
          journal' = refl;
          time' = made.time;
        },
      );
      ran = ran_nothing g.D.Disk.disk c.wallet.inside.journal h (g.met.D.Disk.is_disk c.wallet.inside.journal.disk) st.journal;
    })

pub returns-in-Err-clause-exact : goal.returns-in-Err-clause-exact
returns-in-Err-clause-exact g c = rw (← c.wallet.view_is) (λ h st.
    record {
      adds = (c.in-Err.ensures.fitted h (entry c.args.r.now) st.book c.payload_len-bytes.ensures, as_it_stood g.D.Disk.disk (record { journal = c.wallet.inside.journal; book = c.wallet.inside.book }) h st);
      ran = ran_nothing g.D.Disk.disk c.wallet.inside.journal h (g.met.D.Disk.is_disk c.wallet.inside.journal.disk) st.journal;
    })
