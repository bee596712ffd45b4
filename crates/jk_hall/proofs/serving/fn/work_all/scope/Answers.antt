use denote.Param.Send.{param_send, arg_send}
use Rattle.jk_hall.proofs.serving.fn.work_all.scope.Goals as goal

pub start_and_work-requires-send-S : goal.start_and_work-requires-send-S
start_and_work-requires-send-S g c κs within = param_send 2 _ (arg_send _ _ _ c.requires.1.1.1.1.1.1.1.0)

pub start_and_work-requires-send-C-In : goal.start_and_work-requires-send-C-In
start_and_work-requires-send-C-In g c κs within = param_send 5 _ (arg_send _ _ _ c.requires.1.1.1.1.1.1.1.1)

pub start_and_work-requires-send-C-Out : goal.start_and_work-requires-send-C-Out
start_and_work-requires-send-C-Out g c κs within = param_send 6 _ (arg_send _ _ _ c.requires.1.1.1.1.1.1.1.2)

pub start_and_work-requires-send-C-Told : goal.start_and_work-requires-send-C-Told
start_and_work-requires-send-C-Told g c κs within = param_send 7 _ (arg_send _ _ _ c.requires.1.1.1.1.1.1.1.3)
