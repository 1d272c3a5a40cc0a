mod EntityRuns
mod KeyRuns
mod GroupWalks
mod StepValues
mod Fits
mod BeforeCuts
