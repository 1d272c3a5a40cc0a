pub mod PruneSteps
