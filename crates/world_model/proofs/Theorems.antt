-- What holds after every schedule.
use Rattle.std.proofs.Common.{List, [], refl}
use Rattle.mc_requests.specs.declared.limits.Limits.{Limits}
use Rattle.ledger_model.specs.Lawful.{IsLawful}
use Rattle.ledger_model.proofs.AcceptLaws.{accepted_once}
use Rattle.ledger_model.proofs.FollowLaws.{longer_lawful}
use Rattle.house_core.specs.Session.{State}
use Rattle.wallet_model.proofs.CameLaws.{came_once}
use Rattle.world_model.specs.Worlds.{World, Event, Return, Plays}
use Rattle.world_model.specs.Signings.{Signing, IsMade, ReturnIsMade, AreMade, NamesDiffer, PayApart}
use Rattle.world_model.specs.Agreement.{IsHouseSetup, IsBookOfWallet, IsSetup, DoneIsAccepted, AcceptedOnce, DoneOnce, DoneIsDrawn, PiecesOnce, AcceptedIsAsked, DrawnIsAsked, RepeatSettles}
use Rattle.world_model.specs.Conservation.{IsLawfulHouse, AreLawful, AllBalanced}
use Rattle.world_model.proofs.Lists.{all_of_two, goes_grown}
use Rattle.world_model.proofs.Walks.{walk}
use Rattle.world_model.proofs.Tied.{HouseEntry, HouseTied, WalletTied, Tied}
use Rattle.world_model.proofs.Steps.{MadeAt, now_grown, wallet_now, happens_step, tied_first}
use Rattle.world_model.proofs.PaidLaws.{paid_accept}
use Rattle.world_model.proofs.OnceLaws.{accepts_once, done_once}
use Rattle.world_model.proofs.DrawLaws.{done_is_drawn}
use Rattle.world_model.proofs.AskedLaws.{accepted_is_asked}
use Rattle.world_model.proofs.OrderedLaws.{drawn_is_asked}
use Rattle.world_model.proofs.Balance.{all_balanced}
use Rattle.world_model.proofs.Repeats.{repeats}
use Rattle.world_model.proofs.Settles.{replies_settle}

-- ---- all is tied

Anyhow : Signing → Type 0
Anyhow x = Unit {0}

made_anyhow : (v : World) (e : Event) → MadeAt Anyhow v e
unfolding Anyhow
made_anyhow v (Return k j n reading) = λ h p r meets status proved. tt
made_anyhow v e = tt

tied_anyhow : (limits : Limits) (w v : World) (events : List Event) → IsSetup limits w → Plays limits w events v → Tied limits w Anyhow v
tied_anyhow limits w v events setup plays =
    walk (Tied limits w Anyhow) limits w events (λ front rest e x y is here tied happens. happens_step limits w Anyhow x y e setup (made_anyhow x e) tied happens) [] events w v refl refl (tied_first limits w Anyhow setup) plays

made_by : (v x : World) (e : Event) → ReturnIsMade v x e → MadeAt (IsMade v) x e
made_by v x (Return k j n reading) made = made
made_by v x e made = tt

pub tied_soundly : (limits : Limits) (w v : World) (events : List Event) → IsSetup limits w → Plays limits w events v → AreMade limits w events v → Tied limits w (IsMade v) v
tied_soundly limits w v events setup plays made =
    walk (Tied limits w (IsMade v)) limits w events (λ front rest e x y is here tied happens. happens_step limits w (IsMade v) x y e setup (made_by v x e (made front rest e x is here)) tied happens) [] events w v refl refl
    (tied_first limits w (IsMade v) setup) plays

-- ---- books stay lawful

house_stays_lawful : (limits : Limits) (v : World) (s t : State) → IsHouseSetup limits s → HouseTied limits v.messages s t → IsLawfulHouse limits t
house_stays_lawful limits v s t b r =
    let lawful = goes_grown (IsLawful limits) (HouseEntry limits v.messages) (λ h e q x. longer_lawful limits h e q x.follows) s.history t.history b.book.lawful r.goes in
    record { book = record { fits = r.all; secrets = r.secrets; lawful = lawful; most = r.most }; once = accepted_once limits t.history lawful; in_time = r.in_time }

pub stay_lawful : (limits : Limits) (w v : World) (events : List Event) → IsSetup limits w → Plays limits w events v → AreLawful limits v
stay_lawful limits w v events setup plays =
    let tied = tied_anyhow limits w v events setup plays in
    record {
      houses = all_of_two (HouseTied limits v.messages) (IsHouseSetup limits) (IsLawfulHouse limits) w.houses v.houses tied.houses setup.houses (λ s t b r. house_stays_lawful limits v s t b r);
      wallets = all_of_two (WalletTied Anyhow) IsBookOfWallet IsBookOfWallet w.wallets v.wallets tied.wallets setup.wallets (λ a b book r. now_grown Anyhow a b book r);
    }

-- ---- wallets and houses agree

pub done_is_accepted : (limits : Limits) (w v : World) (events : List Event) → IsSetup limits w → Plays limits w events v → AreMade limits w events v → DoneIsAccepted w v
done_is_accepted limits w v events setup plays sound j before now first last n p scrip price change got since paid =
    let a = paid_accept limits w v j before now n p scrip price change got setup (tied_soundly limits w v events setup plays sound) first last since paid in
    (a.i, a.k, a.agrees)

pub accepted_text_once : (limits : Limits) (w v : World) (events : List Event) → IsSetup limits w → Plays limits w events v → NamesDiffer v → AcceptedOnce v
accepted_text_once limits w v events setup plays sound scrip target other price cost i k l m a b =
    accepts_once limits w Anyhow v scrip target other price cost i k l m setup (tied_anyhow limits w v events setup plays) sound a b

pub done_stands_once : (limits : Limits) (w v : World) (events : List Event) → IsSetup limits w → Plays limits w events v → AreMade limits w events v → NamesDiffer v → PayApart v → DoneOnce w v
done_stands_once limits w v events setup plays made names apart j l before now first last was is had has n m p q scrip price cost change rest got more since after paid again =
    done_once limits w v j l before now first last n m p q scrip price cost change rest got more setup (tied_soundly limits w v events setup plays made) names apart was is had has since after paid again

pub done_was_drawn : (limits : Limits) (w v : World) (events : List Event) → IsSetup limits w → Plays limits w events v → AreMade limits w events v → DoneIsDrawn w v
done_was_drawn limits w v events setup plays sound j before now first last n p price change got since none =
    done_is_drawn limits w v j before now n p price change got setup (tied_soundly limits w v events setup plays sound) first last since none

pub pieces_stand_once : (limits : Limits) (w v : World) (events : List Event) → IsSetup limits w → Plays limits w events v → PiecesOnce v
pieces_stand_once limits w v events setup plays j h at = came_once h (wallet_now limits w Anyhow v j h setup (tied_anyhow limits w v events setup plays) at).lawful

pub accepted_was_asked : (limits : Limits) (w v : World) (events : List Event) → IsSetup limits w → Plays limits w events v → AcceptedIsAsked w v
accepted_was_asked limits w v events setup plays i j n s h secret text target m price sign change deed house closed wallet alone at stands known =
    accepted_is_asked limits w Anyhow v i j n s h secret text target m price sign change deed setup (tied_anyhow limits w v events setup plays) house closed wallet alone at stands known

pub drawn_was_asked : (limits : Limits) (w v : World) (events : List Event) → IsSetup limits w → Plays limits w events v → DrawnIsAsked w v
drawn_was_asked limits w v events setup plays i j n m id s h key target sign house wallet alone at known =
    drawn_is_asked limits w Anyhow v i j n m id s h key target sign setup (tied_anyhow limits w v events setup plays) house wallet alone at known

-- ---- books are balanced

pub stay_balanced : (limits : Limits) (w v : World) (events : List Event) → IsSetup limits w → Plays limits w events v → AllBalanced v
stay_balanced limits w v events setup plays = all_balanced limits w Anyhow v setup (tied_anyhow limits w v events setup plays)

-- ---- repeats

pub repeats_settle : (limits : Limits) (w v : World) (events : List Event) → IsSetup limits w → Plays limits w events v → RepeatSettles limits v
repeats_settle limits w v events setup plays =
    let tied = tied_anyhow limits w v events setup plays in
    repeats limits w Anyhow v setup tied (replies_settle limits w Anyhow v setup tied)
