-- Links that a house over a journal serves.
use Rattle.std.proofs.Common.{◌≡◌, inl, inr, ℕ, ◌<◌, suc, false, List, [], ◌++◌, refl, ap, subst, arith, Result, Ok, Err}
use Rattle.std.proofs.lemmas.List.{append-nil}
use Rattle.mc_outside.specs.DiskView.{DiskView, IsDisk, LinkKeeps}
use Rattle.mc_outside.specs.LinkView.{LinkView, LinkGoes, next_taken, none_left}
use Rattle.mc_requests.specs.declared.limits.Limits.{Limits}
use Rattle.mc_records.specs.Entry.{Entry}
use Rattle.ledger_model.specs.Histories.{History}
use Rattle.millicent_http.specs.Held.{Held, nothing_held}
use Rattle.millicent_http.proofs.ReadLemmas.{read_more, read_item}
use Rattle.millicent_http.specs.declared.clock.Clock.TheVariants.{OfLinks}
use Rattle.millicent_http.specs.Steps.{Did, sent_of, state_after}
use Rattle.millicent_http.specs.Courses.{HadLinks, NoLink}
use Rattle.millicent_http.proofs.LinkCalls.{heard_on}
use Rattle.millicent_http.proofs.CourseLemmas.{links_start, links_go_on}
use Rattle.house_core.specs.HouseView.{HouseView}
use Rattle.house_core.specs.Bench.{limits_of, state_of}
use Rattle.house_core.specs.House.{HouseRepresents}
use Rattle.house_core.specs.Session.{State, Step}
use Rattle.link_turns.specs.declared.turn.Turn.{Turn}
use Rattle.link_turns.specs.declared.turn.Turn.TheVariants as turns
use Rattle.link_turns.proofs.ServingLemmas.{IsServing, serving_starts, serving_goes_on, serving_ended}
use Rattle.link_turns.proofs.LinksLemmas.{had_link}
use Rattle.link_turns.proofs.OrderLemmas.{went_nowhere, went_on, went_quiet, halted_later, halted_on, halted_still}
use Rattle.house_serving.specs.declared.links.ServeOut.TheVariants as outs
use Rattle.house_serving.specs.Orders.{outside_of, history_of, StandsAt, RefinesBy}
use Rattle.house_serving.specs.InDoubt.{RequestInDoubt, InDoubtTurn, InDoubtLink}
use Rattle.house_serving.specs.Links.{TurnsHouse, EndsTurns, ServesLink, ServesLinks}
use Rattle.millicent_http.proofs.AsideLemmas.{TellsAside, SentNoMore, no_more_still, no_more_taken}
use Rattle.house_serving.proofs.HouseOrders.{house_leaves, stands_kept}
use Rattle.house_serving.proofs.HouseTurnLemmas.{ReadOn, stands_at}
use Rattle.house_state.specs.Trade.{TradeView}

-- the state that a house is in after its steps
pub went_at : {O T : Type 0} (link : O → LinkView) (disk : O → DiskView) (trade : T → TradeView) (a : O) (s : State) (xs : List (Did State)) (x : HouseView O T) → RefinesBy link disk trade a s xs x
    → state_of (state_after s xs).history x.bench ≡ state_after s xs
went_at link disk trade a s xs x went = ap (λ (t : ℕ). record { history = (state_after s xs).history; time = t }) went.stands.time

-- links did what sends nothing, after some steps
pub went_still : {O T : Type 0} (link : O → LinkView) (disk : O → DiskView) (trade : T → TradeView) (a : O) (s : State) (xs : List (Did State)) (x y : HouseView O T) → ReadOn link disk x y
    → SentNoMore (link x.journal.disk) (link y.journal.disk) → RefinesBy link disk trade a s xs x → RefinesBy link disk trade a s xs y
went_still link disk trade a s xs x y on same went =
    let t : State = state_after s xs in
    subst (λ (l : List (Did State)). RefinesBy link disk trade a s l y) (append-nil xs)
    (went_on link disk outside_of (StandsAt disk trade) history_of (house_leaves disk trade) on.tells a s xs [] x y went
    (went_quiet link disk outside_of (StandsAt disk trade) history_of (house_leaves disk trade) on.tells x y t t refl went.stands on.keeps on.goes (stands_kept disk trade x y t on.keeps on.rests went.stands) same))

-- ---- the turns of a link

-- by these turns a house came so far on a link
abbrev pub ServingHouse : {O T : Type 0} → (O → LinkView) → (O → DiskView) → (T → TradeView) → Limits → O → State → HouseView O T → Held → Type 0
ServingHouse link disk trade limits a s x k =
    (steps : List (Did State)) × RefinesBy link disk trade a s steps x × IsServing (Step limits) OfLinks steps s (link a) k (link x.journal.disk)

pub house_starts : {O T : Type 0} (link : O → LinkView) (disk : O → DiskView) (trade : T → TradeView) (x : HouseView O T) (h : History) (k : Held) → TellsAside link (λ o. (disk o).aside) → IsDisk (disk x.journal.disk) → k ≡ nothing_held
    → HouseRepresents disk trade x h → ServingHouse link disk trade (limits_of x.bench) x.journal.disk (state_of h x.bench) x k
house_starts link disk trade x h k tells is empty st = (
  [],
  went_nowhere link disk outside_of (StandsAt disk trade) history_of (house_leaves disk trade) tells x (state_of h x.bench) is (stands_at disk trade x h st),
  serving_starts (Step (limits_of x.bench)) OfLinks (state_of h x.bench) k (link x.journal.disk) empty,
)

-- the next turn, from the state that the house is in
turn_from : {O T : Type 0} (link : O → LinkView) (disk : O → DiskView) (trade : T → TradeView) (limits : Limits) (a : O) (s : State) (xs : List (Did State)) (x : HouseView O T) (k m : Held)
    (r : Result (HouseView O T × Turn) O) → RefinesBy link disk trade a s xs x → limits_of x.bench ≡ limits
    → ((h : History) → HouseRepresents disk trade x h → TurnsHouse link disk trade (limits_of x.bench) x.journal.disk (state_of h x.bench) k m r)
    → TurnsHouse link disk trade limits x.journal.disk (state_after s xs) k m r
turn_from link disk trade limits a s xs x k m r went same turned =
    subst (λ (t : State). TurnsHouse link disk trade limits x.journal.disk t k m r) (went_at link disk trade a s xs x went)
    (subst (λ (l : Limits). TurnsHouse link disk trade l x.journal.disk (state_of (state_after s xs).history x.bench) k m r) same (turned (state_after s xs).history went.stands.house))

pub house_goes_on : {O T : Type 0} (link : O → LinkView) (disk : O → DiskView) (trade : T → TradeView) (limits : Limits) (a : O) (s : State) (x y : HouseView O T) (k m : Held) → TellsAside link (λ o. (disk o).aside)
    → limits_of x.bench ≡ limits → ServingHouse link disk trade limits a s x k
    → ((h : History) → HouseRepresents disk trade x h → TurnsHouse link disk trade (limits_of x.bench) x.journal.disk (state_of h x.bench) k m (Ok (y, turns.GoOn)))
    → ServingHouse link disk trade limits a s y m
house_goes_on link disk trade limits a s x y k m tells same so turned =
    let xs : List (Did State) = so.0 in
    let next = turn_from link disk trade limits a s xs x k m (Ok (y, turns.GoOn)) so.1 same turned in (
      xs ++ next.0,
      went_on link disk outside_of (StandsAt disk trade) history_of (house_leaves disk trade) tells a s xs next.0 x y so.1 next.1,
      serving_goes_on (Step limits) OfLinks xs next.0 s (link a) k m (link x.journal.disk) (link y.journal.disk) so.2 next.2,
    )

pub house_ends : {O T : Type 0} (link : O → LinkView) (disk : O → DiskView) (trade : T → TradeView) (limits : Limits) (a : O) (s : State) (x y : HouseView O T) (k m : Held) (turn : Turn) → TellsAside link (λ o. (disk o).aside)
    → limits_of x.bench ≡ limits → (turn ≡ turns.GoOn → ⊥) → ServingHouse link disk trade limits a s x k
    → ((h : History) → HouseRepresents disk trade x h → TurnsHouse link disk trade (limits_of x.bench) x.journal.disk (state_of h x.bench) k m (Ok (y, turn)))
    → EndsTurns link disk trade limits a s (Ok (y, turn))
house_ends link disk trade limits a s x y k m turn tells same last so turned =
    let xs : List (Did State) = so.0 in
    let next = turn_from link disk trade limits a s xs x k m (Ok (y, turn)) so.1 same turned in (
      xs ++ next.0,
      went_on link disk outside_of (StandsAt disk trade) history_of (house_leaves disk trade) tells a s xs next.0 x y so.1 next.1,
      serving_ended (Step limits) OfLinks turn xs next.0 s (link a) k m (link x.journal.disk) (link y.journal.disk) last so.2 next.2,
    )

-- a request whose entry is in doubt, after some items
doubt_link : (limits : Limits) (xs : List (Did State)) (s : State) (before now : LinkView) (k : Held) (e : Entry) (said : List ℕ) (after : LinkView) → IsServing (Step limits) OfLinks xs s before k now
    → InDoubtTurn limits (state_after s xs) k now e said after → InDoubtLink limits xs s before e said after
doubt_link limits xs s before now k e said after so doubt = record {
  got = so.got ++ doubt.more;
  front = so.items;
  q = doubt.q;
  closes = doubt.closes;
  first = record {
    held = doubt.new.bytes;
    read = read_item (so.got ++ doubt.more) (k.bytes ++ doubt.more) doubt.new.bytes so.items _ (read_more so.got doubt.more k.bytes so.items so.read) doubt.took.next;
    open' = so.opens;
    few = omega (arith, so.len, so.few);
  };
  between = now.readings;
  replied = so.replied;
  in_doubt = subst (λ (v : LinkView). RequestInDoubt limits doubt.q (state_after s xs) e said v after) (heard_on before now so.got doubt.more (sent_of xs) now.readings so.link) doubt.in_doubt;
}

pub house_halts : {O T : Type 0} (link : O → LinkView) (disk : O → DiskView) (trade : T → TradeView) (limits : Limits) (a : O) (s : State) (x : HouseView O T) (k m : Held) (d : O) → TellsAside link (λ o. (disk o).aside)
    → limits_of x.bench ≡ limits → ServingHouse link disk trade limits a s x k
    → ((h : History) → HouseRepresents disk trade x h → TurnsHouse link disk trade (limits_of x.bench) x.journal.disk (state_of h x.bench) k m (Err d))
    → EndsTurns {O = O} {T = T} link disk trade limits a s (Err d)
house_halts link disk trade limits a s x k m d tells same so turned =
    let xs : List (Did State) = so.0 in
    let next = turn_from link disk trade limits a s xs x k m (Err d) so.1 same turned in (
      xs,
      next.0,
      next.1,
      halted_later link disk outside_of (StandsAt disk trade) history_of (house_leaves disk trade) tells a s xs x [] next.0 next.1 d so.1 next.2,
      doubt_link limits xs s (link a) (link x.journal.disk) k next.0 next.1 (link d) so.2 next.3,
    )

-- ---- a link

-- a link was ended by its last turn
pub link_served : {O T : Type 0} (link : O → LinkView) (disk : O → DiskView) (trade : T → TradeView) (limits : Limits) (a : O) (s : State) (x y : HouseView O T) (turn : Turn) → ReadOn link disk x y
    → link y.journal.disk ≡ record (link x.journal.disk) { stands = false } → EndsTurns link disk trade limits a s (Ok (x, turn)) → ServesLink link disk trade limits a s (Ok y)
link_served link disk trade limits a s x y turn on is ended = (
  ended.0,
  went_still link disk trade a s ended.0 x y on (no_more_still (link x.journal.disk) (link y.journal.disk) (ap (λ (v : LinkView). v.sessions) is)) ended.1,
  had_link (Step limits) OfLinks turn ended.0 s (link a) (link x.journal.disk) (link y.journal.disk) is ended.2,
)

pub link_halted : {O T : Type 0} (link : O → LinkView) (disk : O → DiskView) (trade : T → TradeView) (limits : Limits) (a : O) (s : State) (c d : O) → TellsAside link (λ o. (disk o).aside)
    → LinkKeeps (disk c) (disk d) → LinkGoes (link c) (link d) → link d ≡ record (link c) { stands = false } → EndsTurns {O = O} {T = T} link disk trade limits a s (Err c) → ServesLink {O = O} {T = T} link disk trade limits a s (Err d)
link_halted link disk trade limits a s c d tells keeps goes is ended = (
  ended.0,
  ended.1,
  ended.2,
  link c,
  halted_still link disk tells history_of a c d s ended.0 [] ended.1 ended.2 keeps goes (no_more_still (link c) (link d) (ap (λ (v : LinkView). v.sessions) is)) ended.3,
  ended.4,
  is,
)

-- ---- links one after another

abbrev pub LinkedHouse : {O T : Type 0} → (O → LinkView) → (O → DiskView) → (T → TradeView) → Limits → ℕ → O → State → HouseView O T → Type 0
LinkedHouse link disk trade limits n a s x =
    (steps : List (Did State)) × RefinesBy link disk trade a s steps x × HadLinks (Step limits) OfLinks n steps s (link a) (link x.journal.disk)

pub linked_starts : {O T : Type 0} (link : O → LinkView) (disk : O → DiskView) (trade : T → TradeView) (limits : Limits) (x : HouseView O T) (h : History) → TellsAside link (λ o. (disk o).aside) → IsDisk (disk x.journal.disk) → HouseRepresents disk trade x h
    → LinkedHouse link disk trade limits 0 x.journal.disk (state_of h x.bench) x
linked_starts link disk trade limits x h tells is st = (
  [],
  went_nowhere link disk outside_of (StandsAt disk trade) history_of (house_leaves disk trade) tells x (state_of h x.bench) is (stands_at disk trade x h st),
  links_start (Step limits) OfLinks (state_of h x.bench) (link x.journal.disk),
)

-- the link that was taken was served, from the state that the house is in
link_from : {O T : Type 0} (link : O → LinkView) (disk : O → DiskView) (trade : T → TradeView) (limits : Limits) (a : O) (s : State) (xs : List (Did State)) (y : HouseView O T) (r : Result (HouseView O T) O)
    → RefinesBy link disk trade a s xs y → limits_of y.bench ≡ limits
    → ((h : History) → HouseRepresents disk trade y h → ServesLink link disk trade (limits_of y.bench) y.journal.disk (state_of h y.bench) r)
    → ServesLink link disk trade limits y.journal.disk (state_after s xs) r
link_from link disk trade limits a s xs y r went same served =
    subst (λ (t : State). ServesLink link disk trade limits y.journal.disk t r) (went_at link disk trade a s xs y went)
    (subst (λ (l : Limits). ServesLink link disk trade l y.journal.disk (state_of (state_after s xs).history y.bench) r) same (served (state_after s xs).history went.stands.house))

pub linked_goes_on : {O T : Type 0} (link : O → LinkView) (disk : O → DiskView) (trade : T → TradeView) (limits : Limits) (n m : ℕ) (a : O) (s : State) (x y z : HouseView O T) → m ≡ suc n → ReadOn link disk x y
    → link y.journal.disk ≡ next_taken (link x.journal.disk) → limits_of y.bench ≡ limits → LinkedHouse link disk trade limits n a s x
    → ((h : History) → HouseRepresents disk trade y h → ServesLink link disk trade (limits_of y.bench) y.journal.disk (state_of h y.bench) (Ok z))
    → LinkedHouse link disk trade limits m a s z
linked_goes_on link disk trade limits n m a s x y z more on taken same so served =
    let xs : List (Did State) = so.0 in
    let went = went_still link disk trade a s xs x y on (no_more_taken (link x.journal.disk) (link y.journal.disk) taken) so.1 in
    let had = link_from link disk trade limits a s xs y (Ok z) went same served in (
      xs ++ had.0,
      went_on link disk outside_of (StandsAt disk trade) history_of (house_leaves disk trade) on.tells a s xs had.0 y z went had.1,
      links_go_on (Step limits) OfLinks n m xs had.0 s (link a) (link x.journal.disk) (link y.journal.disk) (link z.journal.disk) more taken so.2 had.2,
    )

-- as many links as were asked for
pub linked_house_all : {O T : Type 0} (link : O → LinkView) (disk : O → DiskView) (trade : T → TradeView) (limits : Limits) (links n : ℕ) (a : O) (s : State) (x : HouseView O T) → n ≡ links
    → LinkedHouse link disk trade limits n a s x → ServesLinks link disk trade limits links a s (outs.Done x n)
linked_house_all link disk trade limits links n a s x all so = (so.0, so.1, inl (all, so.2))

-- all that came
pub linked_house_over : {O T : Type 0} (link : O → LinkView) (disk : O → DiskView) (trade : T → TradeView) (limits : Limits) (links n : ℕ) (a : O) (s : State) (x y : HouseView O T) → n < links → ReadOn link disk x y
    → link y.journal.disk ≡ none_left (link x.journal.disk) → LinkedHouse link disk trade limits n a s x → ServesLinks link disk trade limits links a s (outs.Done y n)
linked_house_over link disk trade limits links n a s x y few on over so = (
  so.0,
  went_still link disk trade a s so.0 x y on (no_more_still (link x.journal.disk) (link y.journal.disk) (ap (λ (v : LinkView). v.sessions) over)) so.1,
  inr (few, (link x.journal.disk, so.2, over)),
)

-- the next one could not be taken
pub linked_house_broke : {O T : Type 0} (link : O → LinkView) (disk : O → DiskView) (trade : T → TradeView) (limits : Limits) (links n : ℕ) (a : O) (s : State) (x y : HouseView O T) → n < links → ReadOn link disk x y
    → NoLink (link x.journal.disk) (link y.journal.disk) → LinkedHouse link disk trade limits n a s x → ServesLinks link disk trade limits links a s (outs.Link y)
linked_house_broke link disk trade limits links n a s x y few on fault so = (
  so.0,
  went_still link disk trade a s so.0 x y on (no_more_still (link x.journal.disk) (link y.journal.disk) (ap (λ (v : LinkView). v.sessions) fault.same)) so.1,
  record { n = n; few = few; between = link x.journal.disk; links_had = so.2; fault = fault },
)

-- the disk failed on the next one
pub linked_house_halts : {O T : Type 0} (link : O → LinkView) (disk : O → DiskView) (trade : T → TradeView) (limits : Limits) (links n : ℕ) (a : O) (s : State) (x y : HouseView O T) (d : O) → n < links → ReadOn link disk x y
    → link y.journal.disk ≡ next_taken (link x.journal.disk) → limits_of y.bench ≡ limits → LinkedHouse link disk trade limits n a s x
    → ((h : History) → HouseRepresents disk trade y h → ServesLink link disk trade (limits_of y.bench) y.journal.disk (state_of h y.bench) (Err d))
    → ServesLinks {O = O} {T = T} link disk trade limits links a s (outs.Halted d)
linked_house_halts link disk trade limits links n a s x y d few on taken same so served =
    let xs : List (Did State) = so.0 in
    let went = went_still link disk trade a s xs x y on (no_more_taken (link x.journal.disk) (link y.journal.disk) taken) so.1 in
    let had = link_from link disk trade limits a s xs y (Err d) went same served in (
      xs ++ had.0,
      had.1,
      had.2,
      halted_on link disk outside_of (StandsAt disk trade) history_of a s xs had.0 y [] had.1 had.2 d went had.4,
      record {
        n = n;
        few = few;
        front = xs;
        last = had.0;
        steps_are = refl;
        between = link x.journal.disk;
        links_had = so.2;
        stopped = had.3;
        last_link = subst (λ (v : LinkView). InDoubtLink limits had.0 (state_after s xs) v had.1 had.2 had.3) taken had.5;
        ended = had.6;
      },
    )
