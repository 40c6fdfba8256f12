pub mod AskedLemmas
pub mod PlanLemmas
pub mod NavigationLemmas
pub mod ScriptTableLemmas
pub mod ScriptLemmas
pub mod ResultLemmas
pub mod CallLemmas
pub mod StandsLemmas
