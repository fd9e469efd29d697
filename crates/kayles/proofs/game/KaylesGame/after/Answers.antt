use Rattle.std.proofs.Common.{sym, refl, ap, ◌∙◌, subst}
use Rattle.kayles.specs.Kayles.{knocks_of, left_few, pins_of, played}
use Rattle.kayles.specs.Play.{IsKnock, left_by}
use Rattle.kayles.specs.Promises.{LeadsTo}
use Rattle.kayles.proofs.Numbering.{listed}
use Rattle.kayles.proofs.Refereeing.{leads}
use Rattle.kayles.specs.Laws.Rebuilding.{board_is, same_position}
use Rattle.kayles.proofs.Searching.{nth_none, nth_some}
use Rattle.kayles.proofs.game.KaylesGame.after.Goals as goal

pub returns-in_err-played : goal.returns-in_err-played
returns-in_err-played c =
    let p = c.args.p.now in
    let h = nth_none (knocks_of p) c.args.m (sym c.knock.ensures.listed ∙ c.in_err-played.was) in
    rw c.from_residual.ensures (record { child = h; plays = (knocks_of p, listed (pins_of p), h) })

pub returns : goal.returns
returns c =
    let p = c.args.p.now in
    let k = c.in_ok-played.played in
    let s = nth_some (knocks_of p) c.args.m k (sym c.knock.ensures.listed ∙ c.in_ok-played.was) in
    let is = subst (IsKnock (pins_of p)) (sym s.1) ((listed (pins_of p)).each c.args.m s.0) in
    let there = same_position _ (played p k) (board_is c.without.result (left_by k (pins_of p)) (left_few p k) c.without.ensures) refl in
    record {
      child = record { legal = s.0; position = there ∙ ap (played p) s.1; gain = refl; played = s.1 };
      plays = record { numbered = (knocks_of p, listed (pins_of p), s.0, sym s.1); leads = subst (LeadsTo p k) (sym there) (leads p k is); gains = refl };
    }
