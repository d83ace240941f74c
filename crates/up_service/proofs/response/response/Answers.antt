use Rattle.std.proofs.Common.{sym, subst, refl}
use Rattle.std.proofs.lemmas.Result.{IfOk-weaker, on_err_weaker}
use Rattle.std.specs.Prelude.{string_bytes}
use Rattle.up_heads.specs.Responses.{check_response_of}
use Rattle.up_service.specs.Told.{TellsRequest}
use Rattle.up_service.proofs.Answering.{on_err}
use Rattle.up_service.proofs.response.response.Goals as goal

pub returns-in-Call-clause-ok : goal.returns-in-Call-clause-ok
returns-in-Call-clause-ok g c =
    IfOk-weaker c.called_response.result _ _
    (λ t h. subst (λ w. TellsRequest g.C.Called.gives c.args.at c.args.desk.now w c.args.next.now.last c.args.next.now.head (string_bytes t) c.called_response.new.desk) (sym c.in-Call.is) h) c.called_response.ensures.ok

pub returns-in-Call-clause-err : goal.returns-in-Call-clause-err
returns-in-Call-clause-err g c =
    on_err_weaker c.called_response.result
    (λ h. (h.0, subst (λ w. TellsRequest g.C.Called.gives c.args.at c.args.desk.now w c.args.next.now.last c.args.next.now.head h.0 c.called_response.new.desk) (sym c.in-Call.is) h.1)) c.called_response.ensures.err

pub returns-in-Fixed-clause-err : goal.returns-in-Fixed-clause-err
returns-in-Fixed-clause-err g c =
    on_err c.check_response.result (
      check_response_of c.in-Fixed.check c.args.next.now.last c.args.next.now.head,
      subst (λ w. TellsRequest g.C.Called.gives c.args.at c.args.desk.now w c.args.next.now.last c.args.next.now.head (check_response_of c.in-Fixed.check c.args.next.now.last c.args.next.now.head) c.args.desk.now)
          (sym c.in-Fixed.is) (refl, refl),
    )
